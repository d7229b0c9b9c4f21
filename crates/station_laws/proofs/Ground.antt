-- What a station stands on decides which directions begin blocked.
--
-- A direction begins blocked where it leads to the left of a wall that has the station in its interior, or into a
-- corner at the station. Two walls of a sound plan don't have one point in their interiors: two edges that don't touch
-- have none in common, and of two that share a corner and lead from it past one point, one would lie on the other. And
-- no corner of a polygon is in the interior of a wall, no two are at one point, and no screen touches a wall. So at
-- most one wall, or the first corner at the station, decides; a screen's end has an empty cone.
use Rattle.std.proofs.Common.{◌≡◌, ◌⊎◌, inl, inr, ℤ, pos, neg_ℤ, ◌<ℤ◌, arith}
use Rattle.std.proofs.Common.{sym, ◌∙◌, subst}
use Rattle.std.specs.Prelude.{true, false}
use Rattle.std.specs.Ordering.{int_eq}
use Rattle.std.proofs.lemmas.Int.{ints, by_lt_z}
use Rattle.std.proofs.lemmas.Bool.{and_from, and_parts}
use Rattle.plane_spec.specs.declared.Point.{Point}
use Rattle.plane_spec.specs.Vectors.{vector, cross_of, dot_of, orient_of, same_point}
use Rattle.plane_spec.specs.Segments.{is_between, is_on_segment, do_touch}
use Rattle.plane_laws.proofs.Points.Between.{IsBetween, between}
use Rattle.plane_laws.proofs.Points.Directions.{parallel, some_square, exchanged}
use Rattle.plane_laws.proofs.Segments.Shared.{on_line_x, on_line_y}
use Rattle.plane_laws.proofs.Law.{common_point_touches}
use Rattle.front_laws.proofs.Tests.{by_cases, clash, clash_to, other_of_both}
use Rattle.apart_laws.proofs.Standing.{MayStand, clear, next, prev, segment_turned}
use Rattle.apart_laws.proofs.Through.{IsWithinOne}

-- ---- two edges with one point in their interiors

-- two numbers on one side of v beyond p: one is between v and the other
ray_first : (p v u y : ℤ) → is_between p v u ≡ true → is_between p v y ≡ true → int_eq p v ≡ false
    → (is_between u v y ≡ true) ⊎ (is_between y v u ≡ true)
ray_first p v u y h k n =
    by_lt_z v p
    (λ up. by_lt_z u y (λ lt. inl (grind (arith, ints))) (λ ge. inr (grind (arith, ints))))
    (λ down. by_lt_z u y (λ lt. inr (grind (arith, ints))) (λ ge. inl (grind (arith, ints))))

-- an end isn't where the point that differs from it is between
ends_differ : (p v u : ℤ) → is_between p v u ≡ true → int_eq p v ≡ false → int_eq v u ≡ false
ends_differ p v u h n = grind (arith, ints)

other_way : (a b : Point) → same_point a b ≡ false → same_point b a ≡ false
other_way a b h = by_cases (same_point b a) (λ e. clash_to (same_point a b) (swap a b e) h) (λ n. n)
  where
    swap : (a b : Point) → same_point b a ≡ true → same_point a b ≡ true
    swap a b e = let two = and_parts (int_eq b.x a.x) (int_eq b.y a.y) e in
        and_from (int_eq a.x b.x) (int_eq a.y b.y) (turn b.x a.x two.0) (turn b.y a.y two.1)
      where
        turn : (x y : ℤ) → int_eq x y ≡ true → int_eq y x ≡ true
        turn x y e = grind (arith, ints)

-- two ends that are seen from v past p: one is on the way to the other
shared_ray : (v u y p : Point) → IsBetween p v u → IsBetween p v y → same_point p v ≡ false
    → (is_on_segment u v y ≡ true) ⊎ (is_on_segment y v u ≡ true)
shared_ray v u y p pu py differ =
    by_cases (int_eq p.x v.x)
    (λ same. let n = other_of_both (int_eq p.x v.x) (int_eq p.y v.y) same differ in
    elim (ray_first p.y v.y u.y y.y pu.y py.y n) [
      | inl h ↦ inl (on_line_y u v y line (ends_differ p.y v.y y.y py.y n) h)
      | inr h ↦ inr (on_line_y y v u line_back (ends_differ p.y v.y u.y pu.y n) h)
    ])
    (λ n. elim (ray_first p.x v.x u.x y.x pu.x py.x n) [
      | inl h ↦ inl (on_line_x u v y line (ends_differ p.x v.x y.x py.x n) h)
      | inr h ↦ inr (on_line_x y v u line_back (ends_differ p.x v.x u.x pu.x n) h)
    ])
  where
    some : pos 0 <ℤ dot_of (vector v p) (vector v p)
    some = some_square v p (other_way p v differ)

    none : (z w : ℤ) → w ≡ neg_ℤ z → z ≡ pos 0 → w ≡ pos 0
    none z w e h = omega (arith, ints, e, h)

    to_u : cross_of (vector v p) (vector v u) ≡ pos 0
    to_u = none _ _ (exchanged (vector v u) (vector v p)) pu.line

    to_y : cross_of (vector v p) (vector v y) ≡ pos 0
    to_y = none _ _ (exchanged (vector v y) (vector v p)) py.line

    line : orient_of v y u ≡ pos 0
    line = parallel (vector v p) (vector v y) (vector v u) some to_y to_u

    line_back : orient_of v u y ≡ pos 0
    line_back = parallel (vector v p) (vector v u) (vector v y) some to_u to_y

from_corner : (u v y p : Point) → is_on_segment u v y ≡ false → is_on_segment y u v ≡ false → IsWithinOne p u v
    → IsWithinOne p v y → ⊥
from_corner u v y p u_off y_off first second =
    elim (shared_ray v u y p (between p v u (segment_turned p u v ∙ first.on)) (between p v y second.on)
    second.not_first) [
      | inl h ↦ clash (is_on_segment u v y) h u_off
      | inr h ↦ clash (is_on_segment y u v) (sym (segment_turned y u v) ∙ h) y_off
    ]

-- two edges that stand beside each other have no point in both interiors
pub never_within_both : (u v x y p : Point) → MayStand u v x y → IsWithinOne p u v → IsWithinOne p x y → ⊥
never_within_both u v x y p (clear h) first second =
    clash (do_touch u v x y) (common_point_touches u v x y p first.on second.on) h
never_within_both u v x y p (next e u_off y_off) first second =
    at x e u_off second
  where
    at : (z : Point) → v ≡ z → is_on_segment u z y ≡ false → IsWithinOne p z y → ⊥
    at z same off w =
        from_corner u v y p (subst (λ k. is_on_segment u k y ≡ false) (sym same) off) y_off first
        (subst (λ k. IsWithinOne p k y) (sym same) w)
never_within_both u v x y p (prev e x_off v_off) first second =
    at u e x_off first
  where
    at : (z : Point) → y ≡ z → is_on_segment x z v ≡ false → IsWithinOne p z v → ⊥
    at z same off w =
        from_corner x y v p (subst (λ k. is_on_segment x k v ≡ false) (sym same) off) v_off second
        (subst (λ k. IsWithinOne p k v) (sym same) w)

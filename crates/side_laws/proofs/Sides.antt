-- The left of a polygon's edges: the winding at a corner is that along the edge after it, at the next corner, and
-- into the corner's cone.
--
-- At each corner there is a direction left of both walls, whichever way it turns (`inward`). From a point near the
-- corner in it, strips lead to near points in all directions left of both, to near points on the left of the wall
-- after it, and to near points at the next corner. They clear the walls of the two corners since they are left of
-- them, and all others since those are at a distance (`Corners`, `Strips`). What a strip clears doesn't change the
-- winding.
use Rattle.std.specs.Prelude.{false, List, true, Bool, ◌&&◌, ◌||◌, if◌then◌else◌}
use Rattle.std.proofs.Common.{pos, ℤ, ◌<ℤ◌, ap, arith, neg_ℤ, ◌≡◌, ◌+ℤ◌, ◌-ℤ◌, ◌*ℤ◌, ◌∙◌, ◌⊎◌, subst, sym, inl, inr}
use Rattle.std.proofs.Common.{refl, ◌≤ℤ◌}
use Rattle.std.proofs.lemmas.Int.{by_lt_z, ints}
use Rattle.std.proofs.lemmas.Bool.{and_parts, or_cases}
use Rattle.int_laws.proofs.Ring.{dot_times, dot_times_across, neg_times, product_swapped, sum_times, times_neg}
use Rattle.int_laws.proofs.Ring.{times_sum, times_zero, cross_across, cross_of_three, zero_times}
use Rattle.int_laws.proofs.Signs.{zero_factor, tested_not_positive, tested_positive}
use Rattle.plane_spec.specs.declared.Point.{Point}
use Rattle.plane_spec.specs.declared.Segment.{Segment}
use Rattle.plane_spec.specs.Vectors.{cross_of, dot_of, orient_of, same_point}
use Rattle.plane_spec.specs.Vectors.{vector, point, turns_left, is_left_of_line}
use Rattle.plane_spec.specs.Segments.{is_on_segment, do_touch}
use Rattle.plane_spec.specs.Cones.{corner, is_in_cone}
use Rattle.exact_geom.proofs.Orientation.{orient_of_cycled}
use Rattle.plane_laws.proofs.Tests.{clash}
use Rattle.plane_laws.proofs.Points.Directions.{exchanged, some_square, turn_is, cross_itself, minus_right}
use Rattle.plane_laws.proofs.Segments.Touching.{on_by}
use Rattle.plane_laws.proofs.Lists.Members.{IsIn}
use Rattle.plane_laws.proofs.Points.Between.{IsAlong, apart_back, between, on_end}
use Rattle.winding_laws.proofs.Strips.{HasWinding, GoesRoundOff, Clears, carried, clears_far}
use Rattle.winding_laws.proofs.Closed.{AreClosed}
use Rattle.side_laws.proofs.Corners.{turns_after, turns_before, clears_after, clears_before, clears_other, clears_own}
use Rattle.side_laws.proofs.Corners.{clears_later, left_of_inward, right_of_inward, turns_past_after}
use Rattle.side_laws.proofs.Corners.{turns_past_before}

-- ---- a direction to the left of both walls of a corner

-- some direction is left of two directions
pub record Inward (before after : Point) : Type 0 where
  pub way : Point
  pub before_left : pos 0 <ℤ cross_of before way
  pub after_left : pos 0 <ℤ cross_of after way

-- at a straight corner that doesn't fold back the walls lead the same way
straight_on : (u v z : Point) → same_point u v ≡ false → orient_of u v z ≡ pos 0 → is_on_segment u v z ≡ false
    → is_on_segment z u v ≡ false → pos 0 <ℤ dot_of (vector u v) (vector v z)
straight_on u v z apart straight u_off z_off =
    let k = some_square u v apart in
    let line : cross_of (vector v z) (vector u v) ≡ pos 0 = let t = turn_is u v z in
    let s = exchanged (vector u v) (vector v z) in omega (arith, ints, t, s, straight) in
    by_lt_z (pos 0) (dot_of (vector u v) (vector v z)) (λ p. p)
    (λ q. by_lt_z (dot_of (vector u v) (vector u v) +ℤ dot_of (vector u v) (vector v z)) (pos 0)
    (λ far.
    absurd (clash u_off (on_by u v z (neg_ℤ (dot_of (vector u v) (vector v z))) (dot_of (vector u v) (vector u v))
    (turned u v z straight) (omega (arith, ints, far, k)) (omega (arith, ints, k)) (omega (arith, ints, far))
    (far_x u v z (line_parts line).0) (far_y u v z (line_parts line).1))))
    (λ near_by.
    absurd (clash z_off (on_by z u v (dot_of (vector u v) (vector u v))
    (dot_of (vector u v) (vector u v) +ℤ dot_of (vector u v) (vector v z)) straight k near_by (omega (arith, ints, q))
    (near_x u v z (line_parts line).0) (near_y u v z (line_parts line).1)))))
  where
    turned : (u v z : Point) → orient_of u v z ≡ pos 0 → orient_of v z u ≡ pos 0
    turned u v z h = orient_of_cycled u v z ∙ h

    -- the second direction, by the first
    line_parts : cross_of (vector v z) (vector u v) ≡ pos 0
        → (dot_of (vector u v) (vector u v) *ℤ (z.x -ℤ v.x) ≡ dot_of (vector u v) (vector v z) *ℤ (v.x -ℤ u.x))
        × (dot_of (vector u v) (vector u v) *ℤ (z.y -ℤ v.y) ≡ dot_of (vector u v) (vector v z) *ℤ (v.y -ℤ u.y))
    line_parts line =
        let a = dot_times_across (z.x -ℤ v.x) (z.y -ℤ v.y) (v.x -ℤ u.x) (v.y -ℤ u.y) in
        let b = dot_times (z.x -ℤ v.x) (z.y -ℤ v.y) (v.x -ℤ u.x) (v.y -ℤ u.y) in
        let n_y = ap (λ t. (v.y -ℤ u.y) *ℤ t) line ∙ times_zero (v.y -ℤ u.y) in
        let n_x = ap (λ t. (v.x -ℤ u.x) *ℤ t) line ∙ times_zero (v.x -ℤ u.x) in
        let dots : dot_of (vector v z) (vector u v) ≡ dot_of (vector u v) (vector v z) = omega (arith, ints) in
        let first = ap (λ t. t *ℤ (v.x -ℤ u.x)) dots in
        let second = ap (λ t. t *ℤ (v.y -ℤ u.y)) dots in
        let turn_x = product_swapped (z.x -ℤ v.x) (dot_of (vector u v) (vector u v)) in
        let turn_y = product_swapped (z.y -ℤ v.y) (dot_of (vector u v) (vector u v)) in
        (omega (arith, ints, a, n_y, first, turn_x), omega (arith, ints, b, n_x, second, turn_y))

    near_by_parts : (k d u v z : ℤ) → k *ℤ (z -ℤ v) ≡ d *ℤ (v -ℤ u) → k *ℤ (z -ℤ u) ≡ (k +ℤ d) *ℤ (v -ℤ u)
    near_by_parts k d u v z e =
        let s : z -ℤ u ≡ (z -ℤ v) +ℤ (v -ℤ u) = omega (arith, ints) in
        let f = ap (λ t. k *ℤ t) s ∙ times_sum k (z -ℤ v) (v -ℤ u) in
        let g = sum_times k d (v -ℤ u) in
        omega (arith, ints, e, f, g)

    near_x : (u v z : Point)
        → dot_of (vector u v) (vector u v) *ℤ (z.x -ℤ v.x) ≡ dot_of (vector u v) (vector v z) *ℤ (v.x -ℤ u.x)
        → dot_of (vector u v) (vector u v) *ℤ (z.x -ℤ u.x)
        ≡ (dot_of (vector u v) (vector u v) +ℤ dot_of (vector u v) (vector v z)) *ℤ (v.x -ℤ u.x)
    near_x u v z e = near_by_parts (dot_of (vector u v) (vector u v)) (dot_of (vector u v) (vector v z)) u.x v.x z.x e

    near_y : (u v z : Point)
        → dot_of (vector u v) (vector u v) *ℤ (z.y -ℤ v.y) ≡ dot_of (vector u v) (vector v z) *ℤ (v.y -ℤ u.y)
        → dot_of (vector u v) (vector u v) *ℤ (z.y -ℤ u.y)
        ≡ (dot_of (vector u v) (vector u v) +ℤ dot_of (vector u v) (vector v z)) *ℤ (v.y -ℤ u.y)
    near_y u v z e = near_by_parts (dot_of (vector u v) (vector u v)) (dot_of (vector u v) (vector v z)) u.y v.y z.y e

    far_by : (k d u v z : ℤ) → k *ℤ (z -ℤ v) ≡ d *ℤ (v -ℤ u) → neg_ℤ d *ℤ (u -ℤ v) ≡ k *ℤ (z -ℤ v)
    far_by k d u v z e =
        let f = neg_times d (u -ℤ v) in
        let s : v -ℤ u ≡ neg_ℤ (u -ℤ v) = omega (arith, ints) in
        let g = ap (λ t. d *ℤ t) s ∙ times_neg d (u -ℤ v) in
        omega (arith, ints, e, f, g)

    far_x : (u v z : Point)
        → dot_of (vector u v) (vector u v) *ℤ (z.x -ℤ v.x) ≡ dot_of (vector u v) (vector v z) *ℤ (v.x -ℤ u.x)
        → neg_ℤ (dot_of (vector u v) (vector v z)) *ℤ (u.x -ℤ v.x) ≡ dot_of (vector u v) (vector u v) *ℤ (z.x -ℤ v.x)
    far_x u v z e = far_by (dot_of (vector u v) (vector u v)) (dot_of (vector u v) (vector v z)) u.x v.x z.x e

    far_y : (u v z : Point)
        → dot_of (vector u v) (vector u v) *ℤ (z.y -ℤ v.y) ≡ dot_of (vector u v) (vector v z) *ℤ (v.y -ℤ u.y)
        → neg_ℤ (dot_of (vector u v) (vector v z)) *ℤ (u.y -ℤ v.y) ≡ dot_of (vector u v) (vector u v) *ℤ (z.y -ℤ v.y)
    far_y u v z e = far_by (dot_of (vector u v) (vector u v)) (dot_of (vector u v) (vector v z)) u.y v.y z.y e

-- a corner whose walls lead somewhere and don't fold back has a direction left of both
pub inward : (u v z : Point) → same_point u v ≡ false → is_on_segment u v z ≡ false → is_on_segment z u v ≡ false
    → Inward (vector u v) (vector v z)
inward u v z apart u_off z_off =
    let a = vector u v in
    let b = vector v z in
    let t = turn_is u v z in
    let s = exchanged a b in
    let a_self = cross_itself a in
    let b_self = cross_itself b in
    by_lt_z (pos 0) (orient_of u v z)
    (λ left. let f = minus_right a a b in let g = minus_right b a b in
    record {
      way = vector a b;
      before_left = omega (arith, ints, t, f, a_self, left);
      after_left = omega (arith, ints, t, s, g, b_self, left);
    })
    (λ not_left. by_lt_z (orient_of u v z) (pos 0)
    (λ right. let f = minus_right a b a in let g = minus_right b b a in
    record {
      way = vector b a;
      before_left = omega (arith, ints, t, f, a_self, right);
      after_left = omega (arith, ints, t, s, g, b_self, right);
    })
    (λ not_right.
    let more = straight_on u v z apart (omega (arith, ints, not_left, not_right)) u_off z_off in
    let k = some_square u v apart in
    record {
      way = point (neg_ℤ (v.y -ℤ u.y)) (v.x -ℤ u.x);
      before_left = quarter a a k;
      after_left = quarter a b more;
    }))
  where
    quarter : (a b : Point) → pos 0 <ℤ dot_of a b → pos 0 <ℤ cross_of b (point (neg_ℤ a.y) a.x)
    quarter a b h = let e = times_neg b.y a.y in omega (arith, ints, h, e)

-- ---- corners and walls of a polygon

abbrev pub wall : Point → Point → Segment
wall a b = record { a = a; b = b }

-- a corner that no other wall passes through, with a direction to the left of both its walls
pub record IsCornerOf (edges : List Segment) (u v z : Point) : Type 0 where
  pub inner : Inward (vector u v) (vector v z)
  pub others : (f : Segment) → IsIn edges f → (f ≡ wall u v) ⊎ ((f ≡ wall v z) ⊎ (is_on_segment v f.a f.b ≡ false))

-- walls that touch nothing but those at their ends
abbrev pub KeepsApart : List Segment → Segment → Type 0
KeepsApart edges e =
    (f : Segment) → IsIn edges f → is_on_segment e.a f.a f.b ≡ false → is_on_segment e.b f.a f.b ≡ false → do_touch
    f.a f.b e.a e.b ≡ false

-- the edges go round each direction left of both walls of the corner k times
abbrev pub SideAt : List Segment → Point → Point → Point → ℤ → Type 0
SideAt edges u v z k =
    (d : Point) → pos 0 <ℤ cross_of (vector u v) d → pos 0 <ℤ cross_of (vector v z) d → GoesRoundOff edges v d k

pub cleared : (a b p d q e : Point) (f : Segment) → f ≡ wall a b → Clears a b p d q e → Clears f.a f.b p d q e
cleared a b p d q e f h c = subst (λ t. Clears t.a t.b p d q e) (sym h) c

-- round a corner, with one direction each direction left of both walls
pub side_at : (edges : List Segment) (u v z d : Point) (k : ℤ) → AreClosed edges → IsCornerOf edges u v z
    → pos 0 <ℤ cross_of (vector u v) d → pos 0 <ℤ cross_of (vector v z) d
    → HasWinding edges v d k → SideAt edges u v z k
side_at edges u v z d k closed c d_before d_after h e e_before e_after =
    carried edges v d v e k closed
    (λ f there. elim (c.others f there) [
      | inl i ↦ cleared u v v d v e f i (turns_before u v d e d_before e_before)
      | inr (inl i) ↦ cleared v z v d v e f i (turns_after v z d e d_after e_after)
      | inr (inr off) ↦ clears_far f.a f.b v d e off
    ]) h

-- a wall that leads somewhere isn't in line with two directions
not_in_line : (u d e : Point) → (u ≡ point (pos 0) (pos 0) → ⊥) → pos 0 <ℤ cross_of e d → cross_of u d ≡ pos 0
    → cross_of u e ≡ pos 0 → ⊥
not_in_line u d e some more ud ue =
    let a = cross_across e.x e.y u.x u.y d.x d.y in
    let b = cross_of_three e.x e.y u.x u.y d.x d.y in
    let s = exchanged u e in
    let eu : cross_of e u ≡ pos 0 = omega (arith, ints, s, ue) in
    let a1 = ap (λ t. t *ℤ d.x) eu ∙ zero_times d.x in
    let a2 = ap (λ t. t *ℤ e.x) ud ∙ zero_times e.x in
    let b1 = ap (λ t. t *ℤ d.y) eu ∙ zero_times d.y in
    let b2 = ap (λ t. t *ℤ e.y) ud ∙ zero_times e.y in
    let turn_a = product_swapped (cross_of e d) u.x in
    let turn_b = product_swapped (cross_of e d) u.y in
    let x = zero_factor u.x (cross_of e d) (omega (arith, ints, a, a1, a2, turn_a)) more in
    let y = zero_factor u.y (cross_of e d) (omega (arith, ints, b, b1, b2, turn_b)) more in
    some (whole u.x u.y x y)
  where
    whole : (x y : ℤ) → x ≡ pos 0 → y ≡ pos 0 → point x y ≡ point (pos 0) (pos 0)
    whole x y e f = rw (e, f) refl

pub real : (a b d e : Point) → same_point a b ≡ false → pos 0 <ℤ cross_of e d → cross_of (vector a b) d ≡ pos 0
    → cross_of (vector a b) e ≡ pos 0 → ⊥
real a b d e apart more h k =
    let s = some_square a b apart in
    not_in_line (vector a b) d e (λ i. nothing i s) more h k
  where
    nothing : vector a b ≡ point (pos 0) (pos 0) → pos 0 <ℤ dot_of (vector a b) (vector a b) → ⊥
    nothing i s = let t = subst (λ t. pos 0 <ℤ dot_of t t) i s in absurd (omega (arith, ints, t))

to_end : (v z : Point) → same_point v z ≡ false → IsAlong v z z
to_end v z apart = record { between = between z v z (on_end v z); apart = apart_back v z apart }

-- from one corner to the next
pub side_step : (edges : List Segment) (u v z w : Point) (k : ℤ) → AreClosed edges
    → ((f : Segment) → IsIn edges f → same_point f.a f.b ≡ false) → same_point v z ≡ false
    → IsCornerOf edges u v z → IsCornerOf edges v z w → KeepsApart edges (wall v z) → SideAt edges u v z k
    → SideAt edges v z w k
side_step edges u v z w k closed some apart first second alone side e e_before e_after =
    let d = first.inner.way in
    let d_before = first.inner.before_left in
    let d_after = first.inner.after_left in
    let here = to_end v z apart in
    carried edges v d z e k closed
    (λ f there. elim (first.others f there) [
      | inl i ↦ cleared u v v d z e f i (clears_before u v z z d e here d_before d_after e_before)
      | inr (inl i) ↦ cleared v z v d z e f i (clears_own v z z d e here d_after e_before)
      | inr (inr off) ↦ elim (second.others f there) [
        | inl i ↦ cleared v z v d z e f i (clears_own v z z d e here d_after e_before)
        | inr (inl i) ↦ cleared z w v d z e f i (clears_after v z w d e d_after e_before e_after)
        | inr (inr off_too) ↦ clears_other f.a f.b v z z d e here (real f.a f.b d (vector v z) (some f there) d_after)
            (alone f there off off_too) d_after e_before
      ]
    ]) (side d d_before d_after).has

-- beside the middle of a wall
pub side_middle : (edges : List Segment) (u v z w x e : Point) (k : ℤ) → AreClosed edges
    → ((f : Segment) → IsIn edges f → same_point f.a f.b ≡ false)
    → IsCornerOf edges u v z → IsCornerOf edges v z w → KeepsApart edges (wall v z) → SideAt edges u v z k
    → IsAlong v z x → same_point x z ≡ false → pos 0 <ℤ cross_of (vector v z) e → GoesRoundOff edges x e k
side_middle edges u v z w x e k closed some first second alone side here short e_left =
    let d = first.inner.way in
    let d_before = first.inner.before_left in
    let d_after = first.inner.after_left in
    let y = second.inner.way in
    carried edges v d x e k closed
    (λ f there. elim (first.others f there) [
      | inl i ↦ cleared u v v d x e f i (clears_before u v z x d e here d_before d_after e_left)
      | inr (inl i) ↦ cleared v z v d x e f i (clears_own v z x d e here d_after e_left)
      | inr (inr off) ↦ elim (second.others f there) [
        | inl i ↦ cleared v z v d x e f i (clears_own v z x d e here d_after e_left)
        | inr (inl i) ↦ cleared z w v d x e f i
            (clears_later v z w x d e y here short d_after e_left second.inner.before_left second.inner.after_left)
        | inr (inr off_too) ↦ clears_other f.a f.b v z x d e here (real f.a f.b d (vector v z) (some f there) d_after)
            (alone f there off off_too) d_after e_left
      ]
    ]) (side d d_before d_after).has

-- ---- the cone of a corner

left_of_either : (edges : List Segment) (u v z e : Point) (k : ℤ) → AreClosed edges → IsCornerOf edges u v z
    → SideAt edges u v z k → orient_of u v z ≤ℤ pos 0
    → (pos 0 <ℤ cross_of (vector u v) e) ⊎ (pos 0 <ℤ cross_of (vector v z) e) → GoesRoundOff edges v e k
left_of_either edges u v z e k closed c side turn either =
    let d = c.inner.way in
    let d_before = c.inner.before_left in
    let d_after = c.inner.after_left in
    let t = turn_is u v z in
    let not_left : cross_of (vector u v) (vector v z) ≤ℤ pos 0 = omega (arith, ints, t, turn) in
    by_lt_z (pos 0) (cross_of (vector u v) e)
    (λ e_before. by_lt_z (pos 0) (cross_of (vector v z) e)
    (λ e_after. side e e_before e_after)
    (λ not_after. carried edges v d v e k closed
    (λ f there. elim (c.others f there) [
      | inl i ↦ cleared u v v d v e f i (turns_before u v d e d_before e_before)
      | inr (inl i) ↦ cleared v z v d v e f i (turns_past_after v z d e d_after not_after
          (left_of_inward (vector u v) (vector v z) d e not_left d_before d_after e_before not_after))
      | inr (inr off) ↦ clears_far f.a f.b v d e off
    ]) (side d d_before d_after).has))
    (λ not_before.
    let e_after = other not_before either in
    carried edges v d v e k closed
    (λ f there. elim (c.others f there) [
      | inl i ↦ cleared u v v d v e f i (turns_past_before u v d e d_before not_before
          (right_of_inward (vector u v) (vector v z) d e not_left d_before d_after not_before e_after))
      | inr (inl i) ↦ cleared v z v d v e f i (turns_after v z d e d_after e_after)
      | inr (inr off) ↦ clears_far f.a f.b v d e off
    ]) (side d d_before d_after).has)
  where
    other : cross_of (vector u v) e ≤ℤ pos 0 → (pos 0 <ℤ cross_of (vector u v) e) ⊎ (pos 0 <ℤ cross_of (vector v z) e)
        → pos 0 <ℤ cross_of (vector v z) e
    other low (inl h) = absurd (omega (arith, ints, low, h))
    other low (inr h) = h

-- into the cone of the corner the winding is that of the left side
pub side_cone : (edges : List Segment) (u v z e : Point) (k : ℤ) → AreClosed edges → IsCornerOf edges u v z
    → SideAt edges u v z k → is_in_cone (corner u v z) e ≡ true → GoesRoundOff edges v e k
unfolding is_in_cone
side_cone edges u v z e k closed c side h = by_turn (is_left_of_line u v z) refl h
  where
    by_turn : (t : Bool) → is_left_of_line u v z ≡ t
        → (if t then (turns_left (vector u v) e && turns_left (vector v z) e)
        else (turns_left (vector u v) e || turns_left (vector v z) e)) ≡ true → GoesRoundOff edges v e k
    by_turn true turn k =
        let parts = and_parts (turns_left (vector u v) e) (turns_left (vector v z) e) k in
        side e (tested_positive (cross_of (vector u v) e) parts.0) (tested_positive (cross_of (vector v z) e) parts.1)
    by_turn false turn i =
        left_of_either edges u v z e k closed c side (tested_not_positive (orient_of u v z) turn)
        (elim (or_cases (turns_left (vector u v) e) (turns_left (vector v z) e) i) [
          | inl j ↦ inl (tested_positive (cross_of (vector u v) e) j)
          | inr j ↦ inr (tested_positive (cross_of (vector v z) e) j)
        ])

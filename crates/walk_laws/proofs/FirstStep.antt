-- From a step on an edge to the next, off all edges: the winding near the first, towards the second, is that of the
-- second. Steps off all edges keep it.
use Rattle.std.specs.Prelude.{List, map, [], ◌∷◌, false, true, Bool}
use Rattle.std.proofs.Common.{ap, arith, pos, refl, ℕ, ℤ, ◌≡◌, ◌+◌, ◌<◌, ◌+ℤ◌, ◌*ℤ◌, ◌∙◌, inl, inr, subst, ◌⊎◌, ◌-ℤ◌}
use Rattle.std.proofs.lemmas.Int.{ints}
use Rattle.std.proofs.lemmas.Bool.{false_from_ne_true}
use Rattle.int_laws.proofs.Ring.{one_times, sum_times}
use Rattle.plane_spec.specs.declared.Point.{Point}
use Rattle.plane_spec.specs.declared.Segment.{Segment}
use Rattle.plane_spec.specs.Vectors.{point, same_point, vector}
use Rattle.plane_spec.specs.Segments.{do_touch, is_on_segment}
use Rattle.plane_laws.specs.Enlarged.{enlarged, enlarged_wall, part_way}
use Rattle.plane_laws.proofs.Tests.{clash}
use Rattle.plane_laws.proofs.Points.Between.{on_end, on_start}
use Rattle.plane_laws.proofs.Points.Scaled.{same_scaled}
use Rattle.plane_laws.proofs.Lists.Members.{IsIn, source}
use Rattle.winding_laws.specs.Windings.{winding, near}
use Rattle.winding_laws.proofs.Scaled.{wind_scaled}
use Rattle.winding_laws.proofs.Closed.{AreClosed, same_winding}
use Rattle.winding_laws.proofs.Strips.{Clears, HasWinding, carried, closed_enlarged, same_value}
use Rattle.winding_laws.proofs.Settles.{some_winding}
use Rattle.walk_laws.proofs.Walk.{IsFine, corner_at_step, met_at_ends}
use Rattle.walk_laws.proofs.Steps.{MeetsAtStart, clears_step}

-- a point itself, enlarged
winding_there : (n : ℕ) (y : Point) (edges : List Segment) → 0 < n
    → winding (near n y (point (pos 0) (pos 0))) (map (enlarged_wall n) edges) ≡ winding y edges
winding_there n y edges some =
    ap (λ t. winding t (map (enlarged_wall n) edges)) (at (pos n *ℤ y.x) (pos n *ℤ y.y)) ∙ all edges
  where
    at : (p q : ℤ) → point (p +ℤ pos 0) (q +ℤ pos 0) ≡ point p q
    at p q =
        let e : p +ℤ pos 0 ≡ p = omega (arith, ints) in let f : q +ℤ pos 0 ≡ q = omega (arith, ints) in rw (e, f) refl

    all : (edges : List Segment) → winding (enlarged n y) (map (enlarged_wall n) edges) ≡ winding y edges
    all [] = refl
    all (f ∷ edges) =
        let first = wind_scaled (pos n) (pos n) y f (omega (arith, ints, some)) (omega (arith, ints, some)) in
        let rest = all edges in
        omega (arith, ints, first, rest)

meets_at_start : (n j : ℕ) (p q : Point) (f : Segment) → IsFine n p q f → same_point f.a f.b ≡ false
    → is_on_segment (part_way (j + 1) n p q) (enlarged n f.a) (enlarged n f.b) ≡ false
    → MeetsAtStart (enlarged n f.a) (enlarged n f.b) (part_way j n p q) (part_way (j + 1) n p q)
meets_at_start n j p q f fine real off =
    let some = fine.some in
    record {
      real = same_scaled (pos n) (pos n) f.a f.b (omega (arith, ints, some)) (omega (arith, ints, some)) ∙ real;
      a_at = λ on. not_end (enlarged n f.a) (on_start (enlarged n f.a) (enlarged n f.b))
          (corner_at_step n j p q f.a f fine on);
      b_at = λ on. not_end (enlarged n f.b) (on_end (enlarged n f.a) (enlarged n f.b))
          (corner_at_step n j p q f.b f fine on);
      y_off = off;
      free = λ x_off. false_from_ne_true (do_touch (enlarged n f.a) (enlarged n f.b) (part_way j n p q)
          (part_way (j + 1) n p q)) (λ touch. either x_off (met_at_ends n j p q f fine touch));
    }
  where
    not_end : (v : Point) → is_on_segment v (enlarged n f.a) (enlarged n f.b) ≡ true
        → (v ≡ part_way j n p q) ⊎ (v ≡ part_way (j + 1) n p q) → v ≡ part_way j n p q
    not_end v on (inl e) = e
    not_end v on (inr e) =
        absurd (clash off (subst (λ t. is_on_segment t (enlarged n f.a) (enlarged n f.b) ≡ true) e on))

    either : (is_on_segment (part_way j n p q) (enlarged n f.a) (enlarged n f.b) ≡ true → ⊥)
        → (is_on_segment (part_way j n p q) (enlarged n f.a) (enlarged n f.b) ≡ true)
        ⊎ (is_on_segment (part_way (j + 1) n p q) (enlarged n f.a) (enlarged n f.b) ≡ true) → ⊥
    either x_off (inl on) = x_off on
    either x_off (inr on) = clash off on

-- near a step, towards the next one, which is on no edge
pub towards_next : (edges : List Segment) → AreClosed edges
    → ((f : Segment) → IsIn edges f → same_point f.a f.b ≡ false) → (n j : ℕ) (p q : Point)
    → (q.x -ℤ p.x ≡ pos 0 → q.y -ℤ p.y ≡ pos 0 → ⊥)
    → ((f : Segment) → IsIn edges f → IsFine n p q f) → ((f : Segment) → IsIn edges f
    → is_on_segment (part_way (j + 1) n p q) (enlarged n f.a) (enlarged n f.b) ≡ false)
    → HasWinding (map (enlarged_wall n) edges) (part_way j n p q) (vector p q)
    (winding (part_way (j + 1) n p q) (map (enlarged_wall n) edges))
towards_next edges closed real n j p q some fine off =
    let x = part_way j n p q in
    let y = part_way (j + 1) n p q in
    let zero = point (pos 0) (pos 0) in
    let large = map (enlarged_wall n) edges in
    let k = some_winding large x (vector p q) in
    let moved = (carried large x (vector p q) y zero k.0 (closed_enlarged n edges closed)
    (λ g there. let o = source (enlarged_wall n) edges g there in
    subst (λ t. Clears t.a t.b x (vector p q) y zero) o.is
    (clears_step (enlarged n o.it.a) (enlarged n o.it.b) x (vector p q) y
    (next (pos n *ℤ p.x) (q.x -ℤ p.x), next (pos n *ℤ p.y) (q.y -ℤ p.y)) some
    (meets_at_start n j p q o.it (fine o.it o.is_in) (real o.it o.is_in) (off o.it o.is_in)))) k.1).has in
    let there : HasWinding large y zero (winding y large) = record {
      after = 0;
      from_there = λ m l. winding_there m y large l;
    } in
    subst (λ t. HasWinding large x (vector p q) t) (same_value large y zero k.0 (winding y large) moved there) k.1
  where
    next : (z d : ℤ) → z +ℤ pos (j + 1) *ℤ d ≡ (z +ℤ pos j *ℤ d) +ℤ d
    next z d =
        let e : pos (j + 1) ≡ pos j +ℤ pos 1 = omega (arith, ints) in
        let f = ap (λ t. t *ℤ d) e ∙ sum_times (pos j) (pos 1) d in let o = one_times d in omega (arith, ints, f, o)

-- two steps on no edge have one winding
pub kept : (edges : List Segment) → AreClosed edges → (n j : ℕ) (p q : Point)
    → ((f : Segment) → IsIn edges f → IsFine n p q f)
    → ((f : Segment) → IsIn edges f → is_on_segment (part_way j n p q) (enlarged n f.a) (enlarged n f.b) ≡ false)
    → ((f : Segment) → IsIn edges f
    → is_on_segment (part_way (j + 1) n p q) (enlarged n f.a) (enlarged n f.b) ≡ false)
    → winding (part_way j n p q) (map (enlarged_wall n) edges)
    ≡ winding (part_way (j + 1) n p q) (map (enlarged_wall n) edges)
kept edges closed n j p q fine off off_too =
    same_winding (part_way j n p q) (part_way (j + 1) n p q) (map (enlarged_wall n) edges)
    (closed_enlarged n edges closed)
    (λ g there. let o = source (enlarged_wall n) edges g there in
    subst (λ t. do_touch t.a t.b (part_way j n p q) (part_way (j + 1) n p q) ≡ false) o.is
    (false_from_ne_true (do_touch (enlarged n o.it.a) (enlarged n o.it.b) (part_way j n p q) (part_way (j + 1) n p q))
    (λ touch. either (off o.it o.is_in) (off_too o.it o.is_in) (met_at_ends n j p q o.it (fine o.it o.is_in) touch))))
  where
    either : {s t : Bool} → s ≡ false → t ≡ false → (s ≡ true) ⊎ (t ≡ true) → ⊥
    either h k (inl e) = clash h e
    either h k (inr e) = clash k e

-- When two parallel lines meet.
use Rattle.std.proofs.Common.{◌≡◌, refl, ap, ◌∙◌, arith, ℤ, pos, neg_ℤ, ◌-ℤ◌, ◌*ℤ◌, ◌≤ℤ◌, true, false, ◌⊎◌, inl, inr}
use Rattle.std.specs.Prelude.{◌||◌, int_lt}
use Rattle.std.specs.Ordering.{int_eq}
use Rattle.std.proofs.lemmas.Int.{ints}
use Rattle.int_laws.proofs.Ring.{times_neg, zero_times, times_zero, cross_exchanged}
use Rattle.int_laws.proofs.Signs.{zero_factor}
use Rattle.int_laws.proofs.Tests.{equal_tested}
use Rattle.plane_spec.specs.declared.Point.{Point}
use Rattle.plane_spec.specs.Segments.{are_opposite}
use Rattle.plane_spec.specs.Vectors.{vector, cross_of}
use Rattle.plane_spec.specs.Fractions.{RPoint}
use Rattle.plane_spec.specs.RPoints.{do_rsegments_touch}
use Rattle.meet_laws.specs.Stretches.{IsAt, gap, is_in_extents}
use Rattle.meet_laws.proofs.Identities.{three_directions, three_directions_up}
use Rattle.meet_laws.proofs.Values.{HaveOneSign, zero_tested, one_sign}
use Rattle.meet_laws.proofs.Signs.{IsNonzero, by_zero, opposite_alike}
use Rattle.meet_laws.proofs.Meeting.{turn_is}

-- ---- both lie in line, or neither does

pub nothing_times : (c z : ℤ) → c *ℤ z ≡ pos 0 → IsNonzero z → c ≡ pos 0
nothing_times c z e (inr up) = zero_factor c z e up
nothing_times c z e (inl down) = zero_factor c (neg_ℤ z) (times_neg c z ∙ ap neg_ℤ e) (omega (arith, ints))

step_of_flat : (c g x y : ℤ) → c ≡ pos 0 → c *ℤ g ≡ neg_ℤ x -ℤ y → x ≡ neg_ℤ y
step_of_flat c g x y flat e = let f = ap (λ z. z *ℤ g) flat ∙ zero_times g in omega (arith, ints, e, f)

pub in_line_too : (p q d e : Point) → cross_of e d ≡ pos 0 → IsNonzero d.x ⊎ IsNonzero d.y
    → cross_of (vector q p) d ≡ pos 0 → cross_of (vector p q) e ≡ pos 0
in_line_too p q d e flat some line = by_part some
  where
    t : ℤ
    t = cross_of (vector p q) e

    u : ℤ
    u = cross_of (vector q p) d

    by_part : IsNonzero d.x ⊎ IsNonzero d.y → cross_of (vector p q) e ≡ pos 0
    by_part (inl h) = nothing_times (cross_of (vector p q) e) d.x
        (let k = step_of_flat (cross_of e d) (q.x -ℤ p.x) (cross_of (vector p q) e *ℤ d.x) (cross_of (vector q p) d
        *ℤ e.x) flat (three_directions p.x p.y q.x q.y d.x d.y e.x e.y) in
        k ∙ ap neg_ℤ (ap (λ z. z *ℤ e.x) line ∙ zero_times e.x)) h
    by_part (inr h) = nothing_times (cross_of (vector p q) e) d.y
        (let k = step_of_flat (cross_of e d) (q.y -ℤ p.y) (cross_of (vector p q) e *ℤ d.y) (cross_of (vector q p) d
        *ℤ e.y) flat (three_directions_up p.x p.y q.x q.y d.x d.y e.x e.y) in
        k ∙ ap neg_ℤ (ap (λ z. z *ℤ e.y) line ∙ zero_times e.y)) h

pub flat_turned : (d e : Point) → cross_of d e ≡ pos 0 → cross_of e d ≡ pos 0
flat_turned d e flat = let x = cross_exchanged d.x d.y e.x e.y in omega (arith, ints, x, flat)

pub aside_too : (p q d e : Point) → cross_of d e ≡ pos 0 → IsNonzero e.x ⊎ IsNonzero e.y
    → IsNonzero (cross_of (vector q p) d) → IsNonzero (cross_of (vector p q) e)
aside_too p q d e flat some aside = by (by_zero (cross_of (vector p q) e))
  where
    not_both : (z : ℤ) → IsNonzero z → z ≡ pos 0 → ⊥
    not_both z (inl h) e = omega (arith, ints)
    not_both z (inr h) e = omega (arith, ints)

    by : (cross_of (vector p q) e ≡ pos 0) ⊎ IsNonzero (cross_of (vector p q) e) → IsNonzero (cross_of (vector p q) e)
    by (inr h) = h
    by (inl h) = absurd (not_both _ aside (in_line_too q p e d flat some h))

-- ---- the sides are all one

aside : (t n m c : ℤ) → c ≡ pos 0 → t *ℤ m -ℤ n *ℤ c ≡ t *ℤ m
aside t n m c flat = let e = ap (λ z. n *ℤ z) flat ∙ times_zero n in omega (arith, ints, e)

pub one_side : (x t n m c : ℤ) → c ≡ pos 0 → pos 1 ≤ℤ m → HaveOneSign x (t *ℤ m -ℤ n *ℤ c) → HaveOneSign x t
one_side x t n m c flat up h =
    let i = one_sign (t *ℤ m) t (pos 1) m (omega (arith, ints)) up (omega (arith, ints)) in
    let e = aside t n m c flat in
    record {
      above = h.above ∙ ap (λ z. int_lt (pos 0) z) e ∙ i.above;
      below = h.below ∙ ap (λ z. int_lt z (pos 0)) e ∙ i.below;
    }

not_opposite : (s t z : ℤ) → HaveOneSign s z → HaveOneSign t z → are_opposite s t ≡ false
not_opposite s t z h i = opposite_alike s t z z h i ∙ never z
  where
    never : (z : ℤ) → are_opposite z z ≡ false
    never z = grind (arith, ints)

some_tested : (z : ℤ) → IsNonzero z → int_eq z (pos 0) ≡ false
some_tested z (inl h) = grind (arith, ints)
some_tested z (inr h) = grind (arith, ints)

-- parallel lines of which one has its ends aside of the other don't meet
pub meeting_aside : (a b c f : RPoint) (p d q e : Point) (n1 m1 n2 m2 n3 m3 n4 m4 : ℤ)
    → IsAt a p d n1 m1 → IsAt b p d n2 m2 → IsAt c q e n3 m3 → IsAt f q e n4 m4 → cross_of d e ≡ pos 0
    → pos 1 ≤ℤ gap n1 m1 n2 m2 → pos 1 ≤ℤ gap n3 m3 n4 m4
    → IsNonzero (cross_of (vector q p) d) → IsNonzero (cross_of (vector p q) e)
    → do_rsegments_touch a b c f ≡ false
unfolding do_rsegments_touch
meeting_aside a b c f p d q e n1 m1 n2 m2 n3 m3 n4 m4 at_a at_b at_c at_f flat up up' some some' =
    let t = cross_of (vector p q) e in
    let u = cross_of (vector q p) d in
    let back = flat_turned d e flat in
    let turn_c = one_side _ u n3 m3 (cross_of e d) back at_c.x.over
    (turn_is c a b q e p d n3 m3 n1 m1 n2 m2 at_c at_a at_b up) in
    let turn_f = one_side _ u n4 m4 (cross_of e d) back at_f.x.over
    (turn_is f a b q e p d n4 m4 n1 m1 n2 m2 at_f at_a at_b up) in
    let turn_a = one_side _ t n1 m1 (cross_of d e) flat at_a.x.over
    (turn_is a c f p d q e n1 m1 n3 m3 n4 m4 at_a at_c at_f up') in
    let turn_b = one_side _ t n2 m2 (cross_of d e) flat at_b.x.over
    (turn_is b c f p d q e n2 m2 n3 m3 n4 m4 at_b at_c at_f up') in
    rw (
      not_opposite _ _ u turn_c turn_f,
      zero_tested _ _ turn_a ∙ some_tested t some',
      zero_tested _ _ turn_b ∙ some_tested t some',
      zero_tested _ _ turn_c ∙ some_tested u some,
      zero_tested _ _ turn_f ∙ some_tested u some,
    ) refl

nothing_tested : (x z : ℤ) → HaveOneSign x z → z ≡ pos 0 → int_eq x (pos 0) ≡ true
nothing_tested x z h e = zero_tested x z h ∙ equal_tested z (pos 0) e

-- lines in line meet where an end of one is in the extents of the other
pub meeting_in_line : (a b c f : RPoint) (p d q e : Point) (n1 m1 n2 m2 n3 m3 n4 m4 : ℤ)
    → IsAt a p d n1 m1 → IsAt b p d n2 m2 → IsAt c q e n3 m3 → IsAt f q e n4 m4 → cross_of d e ≡ pos 0
    → pos 1 ≤ℤ gap n1 m1 n2 m2 → pos 1 ≤ℤ gap n3 m3 n4 m4
    → cross_of (vector q p) d ≡ pos 0 → cross_of (vector p q) e ≡ pos 0
    → do_rsegments_touch a b c f ≡
    ((is_in_extents a c f || is_in_extents b c f) || (is_in_extents c a b || is_in_extents f a b))
unfolding do_rsegments_touch
meeting_in_line a b c f p d q e n1 m1 n2 m2 n3 m3 n4 m4 at_a at_b at_c at_f flat up up' line line' =
    let t = cross_of (vector p q) e in
    let u = cross_of (vector q p) d in
    let back = flat_turned d e flat in
    let turn_c = one_side _ u n3 m3 (cross_of e d) back at_c.x.over
    (turn_is c a b q e p d n3 m3 n1 m1 n2 m2 at_c at_a at_b up) in
    let turn_f = one_side _ u n4 m4 (cross_of e d) back at_f.x.over
    (turn_is f a b q e p d n4 m4 n1 m1 n2 m2 at_f at_a at_b up) in
    let turn_a = one_side _ t n1 m1 (cross_of d e) flat at_a.x.over
    (turn_is a c f p d q e n1 m1 n3 m3 n4 m4 at_a at_c at_f up') in
    let turn_b = one_side _ t n2 m2 (cross_of d e) flat at_b.x.over
    (turn_is b c f p d q e n2 m2 n3 m3 n4 m4 at_b at_c at_f up') in
    rw (
      not_opposite _ _ u turn_c turn_f,
      nothing_tested _ t turn_a line',
      nothing_tested _ t turn_b line',
      nothing_tested _ u turn_c line,
      nothing_tested _ u turn_f line,
    ) refl

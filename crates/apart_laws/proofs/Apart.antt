-- Walls that don't touch are apart as they are seen.
use Rattle.std.proofs.Common.{◌≡◌, ℤ, ◌+ℤ◌, ◌-ℤ◌, ◌*ℤ◌, ◌<ℤ◌, ◌∙◌, sym, arith, ap, pos}
use Rattle.std.proofs.lemmas.Int.{ints}
use Rattle.std.specs.Ordering.{int_eq}
use Rattle.std.specs.Prelude.{◌&&◌, false, true, int_lt, Bool, not}
use Rattle.plane_spec.specs.Segments.{are_opposite, is_on_segment}
use Rattle.plane_spec.specs.Vectors.{vector, orient_of, cross_of}
use Rattle.plane_spec.specs.declared.Point.{Point}
use Rattle.int_laws.proofs.Signs.{tested_positive}
use Rattle.apart_laws.proofs.Between.{OneOnOther, third, first, overlap}
use Rattle.apart_laws.proofs.Ends.{EndOnOther, last, own, overlap_ends}
use Rattle.front_laws.proofs.Hits.{orient_is_side}
use Rattle.front_laws.proofs.InFront.{sides_are, sides_differ, apart_by}
use Rattle.front_laws.proofs.InOrder.{zero_weights}
use Rattle.front_laws.proofs.Tests.{both_of, clash, by_cases, tested_zero}
use Rattle.front_laws.specs.Seen.{Seen, side_of, spans, are_apart}

abbrev pub seen_from : Point → Point → Point → Seen
seen_from p a b = record { from = vector p a; to = vector p b }

side_is_orient : (p a b c : Point) → side_of (seen_from p a b) (vector p c) ≡ orient_of a b c
side_is_orient p a b c = sym (orient_is_side a b c p)

same_sides : (z u : ℤ) → z ≡ u → are_opposite z u ≡ false
same_sides z u h = ap (are_opposite z) (sym h) ∙ never z
  where
    never : (z : ℤ) → are_opposite z z ≡ false
    never z = grind (arith, ints)

no_sum : (f c x y p q : ℤ) → f *ℤ x +ℤ c *ℤ y ≡ p -ℤ q → x ≡ pos 0 → y ≡ pos 0 → q -ℤ p ≡ pos 0
no_sum f c x y p q e h k =
    let a : f *ℤ x ≡ f *ℤ pos 0 = ap (λ t. f *ℤ t) h in
    let b : c *ℤ y ≡ c *ℤ pos 0 = ap (λ t. c *ℤ t) k in
    omega (arith, ints, e, a, b)

-- both ends on the other's line, where one direction spans both: then the other's ends are on its line too
back_on_line : (p d a b c e : Point) → spans d (seen_from p a b) ≡ true → spans d (seen_from p c e) ≡ true
    → orient_of a b c ≡ pos 0 → orient_of a b e ≡ pos 0 → (orient_of c e a ≡ pos 0) × (orient_of c e b ≡ pos 0)
back_on_line p d a b c e w_spans v_spans c_on e_on =
    let w = seen_from p a b in
    let v = seen_from p c e in
    let w_two = both_of (int_lt (pos 0) (cross_of w.from d)) (int_lt (pos 0) (cross_of d w.to)) w_spans in
    let v_two = both_of (int_lt (pos 0) (cross_of v.from d)) (int_lt (pos 0) (cross_of d v.to)) v_spans in
    let x_is : side_of w v.from ≡ pos 0 = side_is_orient p a b c ∙ c_on in
    let y_is : side_of w v.to ≡ pos 0 = side_is_orient p a b e ∙ e_on in
    let none = no_sum (cross_of d v.to) (cross_of v.from d) (side_of w v.from) (side_of w v.to)
    (cross_of w.from w.to *ℤ (cross_of d v.to +ℤ cross_of v.from d))
    (cross_of v.from v.to *ℤ (cross_of d w.to +ℤ cross_of w.from d)) (sides_are d v w) x_is y_is in
    let equal : side_of v w.from ≡ side_of v w.to = equal_of (side_of w v.from) (side_of w v.to) (side_of v w.from)
    (side_of v w.to) (sides_differ v w) x_is y_is in
    let zero = zero_weights (cross_of d w.to) (cross_of w.from d) (side_of v w.from) (side_of v w.to)
    (tested_positive _ w_two.1) (tested_positive _ w_two.0)
    (sides_are d w v ∙ none) (same_sides (side_of v w.from) (side_of v w.to) equal) in
    (sym (side_is_orient p c e a) ∙ zero.0, sym (side_is_orient p c e b) ∙ zero.1)
  where
    equal_of : (x y z u : ℤ) → y -ℤ x ≡ z -ℤ u → x ≡ pos 0 → y ≡ pos 0 → z ≡ u
    equal_of x y z u h k j = omega (arith, ints, h, k, j)

not_on : (a b c e : Point) → OneOnOther a b c e → is_on_segment c a b ≡ false → is_on_segment a c e ≡ false → ⊥
not_on a b c e (third h) f g = clash (is_on_segment c a b) h f
not_on a b c e (first h) f g = clash (is_on_segment a c e) h g

apart_of : (x y z u : ℤ) → (are_opposite x y && are_opposite z u) ≡ false → (int_eq x (pos 0) && int_eq y (pos 0))
    ≡ false → apart_by x y z u ≡ true
apart_of x y z u h k = both (are_opposite x y && are_opposite z u) (int_eq x (pos 0) && int_eq y (pos 0)) h k
  where
    both : (a b : Bool) → a ≡ false → b ≡ false → (not a && not b) ≡ true
    both a b h k = grind arith

-- walls ab and ce, each counterclockwise from p, that don't cross properly and have no first end on the other
pub apart_where : (p d a b c e : Point) → pos 0 <ℤ cross_of (vector p a) (vector p b)
    → pos 0 <ℤ cross_of (vector p c) (vector p e)
    → spans d (seen_from p a b) ≡ true → spans d (seen_from p c e) ≡ true
    → (are_opposite (orient_of a b c) (orient_of a b e) && are_opposite (orient_of c e a) (orient_of c e b)) ≡ false
    → is_on_segment c a b ≡ false → is_on_segment a c e ≡ false → are_apart (seen_from p c e) (seen_from p a b) ≡ true
unfolding are_apart
apart_where p d a b c e ab_up ce_up w_spans v_spans uncrossed c_off a_off =
    let w = seen_from p a b in
    let v = seen_from p c e in
    let w_two = both_of (int_lt (pos 0) (cross_of w.from d)) (int_lt (pos 0) (cross_of d w.to)) w_spans in
    let v_two = both_of (int_lt (pos 0) (cross_of v.from d)) (int_lt (pos 0) (cross_of d v.to)) v_spans in
    let x = side_is_orient p a b c in
    let y = side_is_orient p a b e in
    let z = side_is_orient p c e a in
    let u = side_is_orient p c e b in
    apart_of (side_of w v.from) (side_of w v.to) (side_of v w.from) (side_of v w.to)
    (rw (x, y, z, u) uncrossed)
    (by_cases (int_eq (side_of w v.from) (pos 0) && int_eq (side_of w v.to) (pos 0))
    (λ h. let two = both_of (int_eq (side_of w v.from) (pos 0)) (int_eq (side_of w v.to) (pos 0)) h in
    let c_on : orient_of a b c ≡ pos 0 = sym x ∙ tested_zero _ two.0 in
    let e_on : orient_of a b e ≡ pos 0 = sym y ∙ tested_zero _ two.1 in
    absurd (not_on a b c e (overlap p d a b c e ab_up ce_up (tested_positive _ w_two.0)
    (tested_positive _ w_two.1) (tested_positive _ v_two.0) (tested_positive _ v_two.1) c_on
    (back_on_line p d a b c e w_spans v_spans c_on e_on).0) c_off a_off))
    (λ h. h))

not_on_end : (a b c e : Point) → EndOnOther a b c e → is_on_segment e a b ≡ false → is_on_segment b c e ≡ false → ⊥
not_on_end a b c e (last h) f g = clash (is_on_segment e a b) h f
not_on_end a b c e (own h) f g = clash (is_on_segment b c e) h g

-- the same of walls that have no last end on the other
pub apart_where_ends : (p d a b c e : Point) → pos 0 <ℤ cross_of (vector p a) (vector p b)
    → pos 0 <ℤ cross_of (vector p c) (vector p e)
    → spans d (seen_from p a b) ≡ true → spans d (seen_from p c e) ≡ true
    → (are_opposite (orient_of a b c) (orient_of a b e) && are_opposite (orient_of c e a) (orient_of c e b)) ≡ false
    → is_on_segment e a b ≡ false → is_on_segment b c e ≡ false → are_apart (seen_from p c e) (seen_from p a b) ≡ true
unfolding are_apart
apart_where_ends p d a b c e ab_up ce_up w_spans v_spans uncrossed e_off b_off =
    let w = seen_from p a b in
    let v = seen_from p c e in
    let w_two = both_of (int_lt (pos 0) (cross_of w.from d)) (int_lt (pos 0) (cross_of d w.to)) w_spans in
    let v_two = both_of (int_lt (pos 0) (cross_of v.from d)) (int_lt (pos 0) (cross_of d v.to)) v_spans in
    let x = side_is_orient p a b c in
    let y = side_is_orient p a b e in
    let z = side_is_orient p c e a in
    let u = side_is_orient p c e b in
    apart_of (side_of w v.from) (side_of w v.to) (side_of v w.from) (side_of v w.to)
    (rw (x, y, z, u) uncrossed)
    (by_cases (int_eq (side_of w v.from) (pos 0) && int_eq (side_of w v.to) (pos 0))
    (λ h. let two = both_of (int_eq (side_of w v.from) (pos 0)) (int_eq (side_of w v.to) (pos 0)) h in
    let c_on : orient_of a b c ≡ pos 0 = sym x ∙ tested_zero _ two.0 in
    let e_on : orient_of a b e ≡ pos 0 = sym y ∙ tested_zero _ two.1 in
    absurd (not_on_end a b c e (overlap_ends p d a b c e ab_up ce_up (tested_positive _ w_two.0)
    (tested_positive _ w_two.1) (tested_positive _ v_two.0) (tested_positive _ v_two.1) e_on
    (back_on_line p d a b c e w_spans v_spans c_on e_on).1) e_off b_off))
    (λ h. h))

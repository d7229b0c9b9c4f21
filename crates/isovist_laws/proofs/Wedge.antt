-- A wall that is seen in a gap between two directions spans all of it.
--
-- Let f be left of e, and let the wall's ends lie in directions a and b on the two sides of their sum: a to its right and
-- b to its left, with b left of a, since the wall is met ahead. Neither end lies strictly between e and f. If e were
-- before a, then a would be between e and the sum, so a isn't after e; and likewise b isn't before f. By
-- ef ab + eb fa = ea fb, where ea fb isn't positive, eb and fa have different signs; and they can't be the wrong way
-- round, since then ea fb would be the smaller. So both directions lie from a to b: the ray in each of them meets the
-- wall's line, and the wall from end to end.
use Rattle.std.proofs.Common.{◌≡◌, ℤ, pos, neg_ℤ, ◌+ℤ◌, ◌-ℤ◌, ◌*ℤ◌, ◌<ℤ◌, ◌≤ℤ◌, arith}
use Rattle.std.proofs.lemmas.Int.{ints, by_lt_z}
use Rattle.plane_spec.specs.declared.Point.{Point}
use Rattle.plane_spec.specs.Vectors.{cross_of}
use Rattle.sight_spec.specs.Isovist.{sum_of}
use Rattle.int_laws.proofs.Ring.{cross_of_four, sum_times, minus_times, product_swapped, neg_times}
use Rattle.int_laws.proofs.Signs.{positive_product, not_negative_product, opposite_product, negative_factors, positive_factor}
use Rattle.exact_geom.proofs.Turns.{cross_of_exchanged}
use Rattle.isovist_laws.specs.Spans.{Wedge}

-- ---- numbers

-- `eb` is positive, by the signs of the others
first_sign : (ef ab ea fa eb fb : ℤ) → (ef *ℤ ab +ℤ eb *ℤ fa) ≡ ea *ℤ fb → pos 0 <ℤ ef → pos 0 <ℤ ab
    → (ea +ℤ fa) <ℤ pos 0 → pos 0 <ℤ (eb +ℤ fb) → ea ≤ℤ pos 0 → pos 0 ≤ℤ fb → pos 0 <ℤ eb
first_sign ef ab ea fa eb fb four ef_up ab_up a_right b_left ea_low fb_up =
    by_lt_z (pos 0) eb (λ h. h)
    (λ low. absurd
    (let area = positive_product ef ab ef_up ab_up in
    let outer = opposite_product ea fb ea_low fb_up in
    by_lt_z (pos 0) fa
    (λ fa_up.
    let first = not_negative_product (fb +ℤ eb) fa (omega (arith, ints)) (omega (arith, ints)) in
    let first_is = sum_times fb eb fa in
    let second = not_negative_product (neg_ℤ ea -ℤ fa) fb (omega (arith, ints)) fb_up in
    let second_is = minus_times (neg_ℤ ea) fa fb in
    let turned = neg_times ea fb in
    let swapped = product_swapped fb fa in
    omega (arith, ints, first, first_is, second, second_is, turned, swapped, area, four))
    (λ fa_low. let g = negative_factors eb fa low fa_low in omega (arith, ints, g, area, outer, four))))

-- and `fa` is negative
second_sign : (ef ab ea fa eb fb : ℤ) → (ef *ℤ ab +ℤ eb *ℤ fa) ≡ ea *ℤ fb → pos 0 <ℤ ef → pos 0 <ℤ ab
    → ea ≤ℤ pos 0 → pos 0 ≤ℤ fb → pos 0 <ℤ eb → fa <ℤ pos 0
second_sign ef ab ea fa eb fb four ef_up ab_up ea_low fb_up eb_up =
    by_lt_z fa (pos 0) (λ h. h)
    (λ up. absurd
    (let area = positive_product ef ab ef_up ab_up in
    let outer = opposite_product ea fb ea_low fb_up in
    let inner = not_negative_product eb fa (omega (arith, ints)) up in
    omega (arith, ints, area, outer, inner, four)))

-- ---- directions

-- left of the sum of two directions
pub cross_of_sum : (e f d : Point) → cross_of (sum_of e f) d ≡ cross_of e d +ℤ cross_of f d
cross_of_sum e f d =
    let x = sum_times e.x f.x d.y in
    let y = sum_times e.y f.y d.x in
    omega (arith, ints, x, y)

-- the wall spans the gap
pub wedge_of_gap : (a b e f : Point) → pos 0 <ℤ cross_of e f → pos 0 <ℤ cross_of a b
    → cross_of (sum_of e f) a <ℤ pos 0 → pos 0 <ℤ cross_of (sum_of e f) b
    → (pos 0 <ℤ cross_of e a → pos 0 <ℤ cross_of a f → ⊥) → (pos 0 <ℤ cross_of e b → pos 0 <ℤ cross_of b f → ⊥)
    → Wedge a b e f
wedge_of_gap a b e f ef_up ab_up a_right b_left a_out b_out =
    let four = cross_of_four e.x e.y f.x f.y a.x a.y b.x b.y in
    let sum_a = cross_of_sum e f a in
    let sum_b = cross_of_sum e f b in
    let af = cross_of_exchanged f a in
    let bf = cross_of_exchanged f b in
    let ae = cross_of_exchanged e a in
    let a_low : (cross_of e a +ℤ cross_of f a) <ℤ pos 0 = omega (arith, ints, sum_a, a_right) in
    let b_up : pos 0 <ℤ (cross_of e b +ℤ cross_of f b) = omega (arith, ints, sum_b, b_left) in
    let ea_low : cross_of e a ≤ℤ pos 0 =
    by_lt_z (pos 0) (cross_of e a)
    (λ h. absurd (a_out h (omega (arith, ints, h, af, a_low)))) (λ h. h) in
    let fb_up : pos 0 ≤ℤ cross_of f b =
    by_lt_z (cross_of f b) (pos 0)
    (λ h. absurd (b_out (omega (arith, ints, h, b_up)) (omega (arith, ints, h, bf)))) (λ h. h) in
    let eb_up = first_sign (cross_of e f) (cross_of a b) (cross_of e a) (cross_of f a) (cross_of e b) (cross_of f b)
    four ef_up ab_up a_low b_up ea_low fb_up in
    let fa_low = second_sign (cross_of e f) (cross_of a b) (cross_of e a) (cross_of f a) (cross_of e b) (cross_of f b)
    four ef_up ab_up ea_low fb_up eb_up in
    record {
      turned = ef_up;
      wide = ab_up;
      begins = omega (arith, ints, ea_low, ae);
      begins_before = eb_up;
      ends_after = omega (arith, ints, fa_low, af);
      ends = fb_up;
    }

-- two gaps, one after the other, that one wall spans
pub wedges_join : (a b e f g : Point) → Wedge a b e f → Wedge a b f g → Wedge a b e g
wedges_join a b e f g w v =
    let four = cross_of_four a.x a.y e.x e.y f.x f.y g.x g.y in
    let first = not_negative_product (cross_of a e) (cross_of f g) w.begins (omega (arith, ints, v.turned)) in
    let second = positive_product (cross_of a g) (cross_of e f) v.ends_after w.turned in
    let swapped = product_swapped (cross_of e g) (cross_of a f) in
    let product : pos 0 <ℤ (cross_of e g *ℤ cross_of a f) = omega (arith, ints, four, first, second, swapped) in
    record {
      turned = positive_factor (cross_of e g) (cross_of a f) product w.ends_after;
      wide = w.wide;
      begins = w.begins;
      begins_before = w.begins_before;
      ends_after = v.ends_after;
      ends = v.ends;
    }

-- Tests of multiples: a positive factor on both sides changes no comparison.
use Rattle.std.specs.Prelude.{int_lt, int_le}
use Rattle.std.specs.Ordering.{int_eq}
use Rattle.std.proofs.Common.{arith, pos, ℤ, ◌≡◌, ◌-ℤ◌, ◌*ℤ◌, ◌<ℤ◌, ap, sym, ◌∙◌}
use Rattle.std.proofs.lemmas.Int.{ints}
use Rattle.int_laws.proofs.Tests.{agree, less_tested, tested_less}
use Rattle.int_laws.proofs.Signs.{positive_factor, positive_product}
use Rattle.int_laws.proofs.Ring.{product_swapped, times_minus, times_zero}

-- ---- tests of multiples

pub less_scaled : (r x y : ℤ) → pos 0 <ℤ r → int_lt (r *ℤ x) (r *ℤ y) ≡ int_lt x y
less_scaled r x y h =
    let e = times_minus r y x in
    let f = product_swapped r (y -ℤ x) in
    agree (int_lt (r *ℤ x) (r *ℤ y)) (int_lt x y)
    (λ t. let g = tested_less (r *ℤ x) (r *ℤ y) t in let k = positive_factor (y -ℤ x) r
    (omega (arith, ints, e, f, g)) h in less_tested x y (omega (arith, ints, k)))
    (λ t. let g = tested_less x y t in let k = positive_product r (y -ℤ x) h (omega (arith, ints, g)) in
    less_tested (r *ℤ x) (r *ℤ y) (omega (arith, ints, e, k)))

pub at_most_scaled : (r x y : ℤ) → pos 0 <ℤ r → int_le (r *ℤ x) (r *ℤ y) ≡ int_le x y
at_most_scaled r x y h = turned (r *ℤ x) (r *ℤ y) x y (less_scaled r y x h)
  where
    turned : (p q x y : ℤ) → int_lt q p ≡ int_lt y x → int_le p q ≡ int_le x y
    turned p q x y e = grind (arith, ints)

pub equal_scaled : (r x y : ℤ) → pos 0 <ℤ r → int_eq (r *ℤ x) (r *ℤ y) ≡ int_eq x y
equal_scaled r x y h = turned (r *ℤ x) (r *ℤ y) x y (less_scaled r x y h) (less_scaled r y x h)
  where
    turned : (p q x y : ℤ) → int_lt p q ≡ int_lt x y → int_lt q p ≡ int_lt y x → int_eq p q ≡ int_eq x y
    turned p q x y e f = grind (arith, ints)

-- a multiple has the sign
pub positive_scaled : (r x : ℤ) → pos 0 <ℤ r → int_lt (pos 0) (r *ℤ x) ≡ int_lt (pos 0) x
positive_scaled r x h = sym (ap (λ t. int_lt t (r *ℤ x)) (times_zero r)) ∙ less_scaled r (pos 0) x h

pub negative_scaled : (r x : ℤ) → pos 0 <ℤ r → int_lt (r *ℤ x) (pos 0) ≡ int_lt x (pos 0)
negative_scaled r x h = sym (ap (λ t. int_lt (r *ℤ x) t) (times_zero r)) ∙ less_scaled r x (pos 0) h

pub none_scaled : (r x : ℤ) → pos 0 <ℤ r → int_eq (r *ℤ x) (pos 0) ≡ int_eq x (pos 0)
none_scaled r x h = sym (ap (λ t. int_eq (r *ℤ x) t) (times_zero r)) ∙ equal_scaled r x (pos 0) h

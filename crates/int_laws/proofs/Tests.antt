-- Tests of whole numbers, and what a positive factor on both sides changes: nothing.
use Rattle.std.proofs.Common.{◌≡◌, refl, sym, subst, arith, Bool, true, false, ℤ, pos, ◌-ℤ◌, ◌*ℤ◌, ◌≤ℤ◌, ◌<ℤ◌}
use Rattle.std.specs.Prelude.{int_lt, int_le}
use Rattle.std.specs.Ordering.{int_eq}
use Rattle.std.proofs.lemmas.Int.{ints}
use Rattle.int_laws.proofs.Ring.{minus_times}
use Rattle.int_laws.proofs.Signs.{positive_product, positive_factor}

-- ---- what passes a test

pub tested_equal : (x y : ℤ) → int_eq x y ≡ true → x ≡ y
tested_equal x y h = grind (arith, ints)

pub equal_tested : (x y : ℤ) → x ≡ y → int_eq x y ≡ true
equal_tested x y h = grind (arith, ints)

pub tested_less : (x y : ℤ) → int_lt x y ≡ true → x <ℤ y
tested_less x y h = omega (arith, ints, h)

pub less_tested : (x y : ℤ) → x <ℤ y → int_lt x y ≡ true
less_tested x y h = grind (arith, ints)

pub tested_at_most : (x y : ℤ) → int_le x y ≡ true → x ≤ℤ y
tested_at_most x y h = omega (arith, ints, h)

pub at_most_tested : (x y : ℤ) → x ≤ℤ y → int_le x y ≡ true
at_most_tested x y h = grind (arith, ints)

-- two tests that each pass where the other does are one
pub agree : (x y : Bool) → (x ≡ true → y ≡ true) → (y ≡ true → x ≡ true) → x ≡ y
agree true y there back = sym (there refl)
agree false true there back = back refl
agree false false there back = refl

-- ---- a positive factor on both sides

pub smaller_factor : (x y d : ℤ) → pos 1 ≤ℤ d → (x *ℤ d) <ℤ (y *ℤ d) → x <ℤ y
smaller_factor x y d up less =
    let more : pos 0 <ℤ ((y -ℤ x) *ℤ d) = subst (λ t. pos 0 <ℤ t) (sym (minus_times y x d)) (omega (arith, ints)) in
    let factor : pos 0 <ℤ (y -ℤ x) = positive_factor (y -ℤ x) d more (omega (arith, ints)) in
    omega (arith, ints)

pub smaller_product : (x y d : ℤ) → pos 1 ≤ℤ d → x <ℤ y → (x *ℤ d) <ℤ (y *ℤ d)
smaller_product x y d up less =
    let more = positive_product (y -ℤ x) d (omega (arith, ints)) (omega (arith, ints)) in
    let apart : pos 0 <ℤ (y *ℤ d -ℤ x *ℤ d) = subst (λ t. pos 0 <ℤ t) (minus_times y x d) more in
    omega (arith, ints)

pub same_test : (x y d : ℤ) → pos 1 ≤ℤ d → int_lt (x *ℤ d) (y *ℤ d) ≡ int_lt x y
same_test x y d up =
    agree (int_lt (x *ℤ d) (y *ℤ d)) (int_lt x y)
    (λ h. less_tested x y (smaller_factor x y d up (tested_less (x *ℤ d) (y *ℤ d) h)))
    (λ h. less_tested (x *ℤ d) (y *ℤ d) (smaller_product x y d up (tested_less x y h)))

pub not_at_most : (x y : ℤ) → x <ℤ y → int_le y x ≡ false
not_at_most x y h = grind (arith, ints)

pub not_less : (x y : ℤ) → y ≤ℤ x → int_lt x y ≡ false
not_less x y h = grind (arith, ints)

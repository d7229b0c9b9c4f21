-- Lowest terms: the greatest common divisor, and what is left of a fraction without it.
use Rattle.std.proofs.Common.{◌≡◌, ◌≢◌, ℕ, zero, suc, ◌+◌, ◌*◌, ◌/◌, ◌%◌, ◌<◌, ◌≤◌, refl, sym, ◌∙◌, ap, subst, arith, ℤ, pos, neg_ℤ, ◌≤ℤ◌}
use Prim.Native.Nat.{◌∣◌}
use Rattle.std.specs.Prelude.{unsigned_abs, Bool, true, false, int_lt, if◌then◌else◌}
use Rattle.std.specs.Int.{IsGcd}
use Rattle.std.proofs.lemmas.Int.{ints}
use Rattle.std.proofs.lemmas.Nat.Gcd.{IsGcd-from_zero, IsGcd-from_mod, same_from_IsGcd}
use Rattle.std.proofs.Math.Nat.{mod-lt, div-mul_cancel, zero-mul, pos_of_ne-zero, div-le_self}
use lib.IntN.{negsuc}
use Rattle.int_laws.proofs.Divisors.{coprime_quotients, positive_divisor}
use Rattle.plane_spec.specs.Vectors.{IsWithin}
use Rattle.plane_spec.specs.Fractions.{Fraction, whole, divisor_within, common_divisor, divided, reduced, IsReduced, fraction}
use Rattle.exact_geom.specs.Parts.{HasPartsWithin}
use Rattle.exact_geom.proofs.Bounds.{size_within, within_size}

-- ---- the greatest common divisor

divisor_within_is : (steps a b : ℕ) → b < steps → IsGcd a b (divisor_within steps a b)
divisor_within_is zero a b few = absurd (omega arith)
divisor_within_is (suc steps) a zero few = IsGcd-from_zero a zero refl
divisor_within_is (suc steps) a (suc b) few =
    let less : a % suc b < suc b = mod-lt a (omega arith) in
    IsGcd-from_mod a (suc b) (divisor_within steps (suc b) (a % suc b)) (divisor_within_is steps (suc b) (a % suc b) (omega arith))

-- the remainders end with the greatest common divisor
pub common_divisor_is : (a b : ℕ) → IsGcd a b (common_divisor a b)
unfolding common_divisor
common_divisor_is a b = divisor_within_is (b + 1) a b (omega arith)

-- one step of them
pub common_divisor-step : (a b : ℕ) → common_divisor b (a % b) ≡ common_divisor a b
common_divisor-step a b =
    same_from_IsGcd a b (common_divisor b (a % b)) (common_divisor a b) (IsGcd-from_mod a b (common_divisor b (a % b)) (common_divisor_is b (a % b))) (common_divisor_is a b)

-- the last step
pub common_divisor-end : (a b : ℕ) → b ≡ 0 → common_divisor a b ≡ a
common_divisor-end a b none = same_from_IsGcd a b (common_divisor a b) a (common_divisor_is a b) (IsGcd-from_zero a b none)

-- ---- a number divided by a divisor of its size

pub divided_natural : (n g : ℕ) → divided (pos n) g ≡ pos (n / g)
divided_natural n g = grind (arith, ints)

pub size_of_divided : (z : ℤ) (g : ℕ) → unsigned_abs (divided z g) ≡ unsigned_abs z / g
size_of_divided (pos n) g = ap unsigned_abs (divided_natural n g)
size_of_divided (negsuc n) g = size_of_negative (suc n / g)
  where
    size_of_negative : (n : ℕ) → unsigned_abs (neg_ℤ (pos n)) ≡ n
    size_of_negative zero = refl
    size_of_negative (suc n) = refl

-- the quotient by a divisor of a positive number is positive
pub quotient_is_positive : (n g : ℕ) → 0 < n → g ∣ n → 0 < n / g
quotient_is_positive n g nonzero whole =
    pos_of_ne-zero (λ e. let all = div-mul_cancel g whole in let none : n / g * g ≡ 0 = ap (λ t. t * g) e ∙ zero-mul g in absurd (omega arith))

divided_is_positive : (z : ℤ) (g : ℕ) → pos 1 ≤ℤ z → g ∣ unsigned_abs z → pos 1 ≤ℤ divided z g
divided_is_positive (pos n) g nonzero whole =
    let more = quotient_is_positive n g (omega (arith, ints)) whole in
    subst (λ t. pos 1 ≤ℤ t) (sym (divided_natural n g)) (omega (arith, ints))
divided_is_positive (negsuc n) g nonzero whole = absurd (omega (arith, ints))

-- ---- fractions in lowest terms

-- the greatest common divisor of the parts
abbrev pub divisor_of : Fraction → ℕ
divisor_of f = common_divisor (unsigned_abs f.num) (unsigned_abs f.den)

pub size_is_positive : (z : ℤ) → pos 1 ≤ℤ z → 0 < unsigned_abs z
size_is_positive (pos n) nonzero = omega (arith, ints)
size_is_positive (negsuc n) nonzero = omega arith

pub divisor_is_positive : (f : Fraction) → pos 1 ≤ℤ f.den → 0 < divisor_of f
divisor_is_positive f nonzero =
    positive_divisor (unsigned_abs f.num) (unsigned_abs f.den) (divisor_of f) (size_is_positive f.den nonzero) (common_divisor_is (unsigned_abs f.num) (unsigned_abs f.den))

-- what is left is in lowest terms
pub reduced_is_reduced : (f : Fraction) → pos 1 ≤ℤ f.den → IsReduced (reduced f)
unfolding reduced
reduced_is_reduced f nonzero =
    let g = divisor_of f in
    let is = common_divisor_is (unsigned_abs f.num) (unsigned_abs f.den) in
    record {
      lowest = rw (size_of_divided f.num g, size_of_divided f.den g) (coprime_quotients (unsigned_abs f.num) (unsigned_abs f.den) g (divisor_is_positive f nonzero) is);
      positive = divided_is_positive f.den g nonzero is.1;
    }

-- the parts, each divided by the greatest common divisor
pub reduced_by_parts : (num den : ℤ) (g : ℕ) (n d : ℤ) → g ≡ common_divisor (unsigned_abs num) (unsigned_abs den) → n ≡ divided num g → d ≡ divided den g
    → record { num = n; den = d } ≡ reduced (record { num = num; den = den })
unfolding reduced
reduced_by_parts num den g n d g_is n_is d_is = rw (n_is, d_is, g_is) refl

-- ---- sizes

part_no_larger : (most : ℕ) (z : ℤ) (g : ℕ) → IsWithin (pos most) z → IsWithin (pos most) (divided z g)
part_no_larger most z g h =
    let small = size_within most z h in
    let less = div-le_self (unsigned_abs z) g in
    let size = size_of_divided z g in
    within_size most (divided z g) (omega arith)

-- reducing makes no part larger
pub reduced_no_larger : (most : ℕ) (f : Fraction) → HasPartsWithin (pos most) f → HasPartsWithin (pos most) (reduced f)
unfolding reduced
reduced_no_larger most f h = record {
  num = part_no_larger most f.num (divisor_of f) h.num;
  den = part_no_larger most f.den (divisor_of f) h.den;
}

-- what is within a bound is within a greater one
pub within_more : (m n : ℕ) (z : ℤ) → m ≤ n → IsWithin (pos m) z → IsWithin (pos n) z
within_more m n z more h = let small = size_within m z h in within_size n z (omega arith)

pub neg_within : (most : ℕ) (z : ℤ) → IsWithin (pos most) z → IsWithin (pos most) (neg_ℤ z)
neg_within most z h = record { low = omega (arith, ints); high = omega (arith, ints) }

opposite_is_positive : (z : ℤ) → z ≢ pos 0 → int_lt (pos 0) z ≡ false → pos 1 ≤ℤ neg_ℤ z
opposite_is_positive (pos zero) nonzero h = absurd (nonzero refl)
opposite_is_positive (pos (suc n)) nonzero h = absurd (omega (arith, ints, h))
opposite_is_positive (negsuc n) nonzero h = omega (arith, ints)

over_by : Bool → ℤ → ℤ → Fraction
over_by up num den = if up then record { num = num; den = den } else record { num = neg_ℤ num; den = neg_ℤ den }

positive_by : (up : Bool) (num den : ℤ) → den ≢ pos 0 → int_lt (pos 0) den ≡ up → pos 1 ≤ℤ (over_by up num den).den
unfolding over_by
positive_by true num den nonzero h = omega (arith, ints, h)
positive_by false num den nonzero h = opposite_is_positive den nonzero h

-- every denominator but 0 gives one of at least 1
pub fraction_is_positive : (num den : ℤ) → den ≢ pos 0 → pos 1 ≤ℤ (fraction num den).den
unfolding over_by
fraction_is_positive num den nonzero = positive_by (int_lt (pos 0) den) num den nonzero refl

-- a whole number is in lowest terms
pub whole_is_reduced : (z : ℤ) → IsReduced (whole z)
whole_is_reduced z = record {
  lowest = IsGcd-from_mod (unsigned_abs z) 1 1 (IsGcd-from_zero 1 (unsigned_abs z % 1) (omega arith));
  positive = omega (arith, ints);
}

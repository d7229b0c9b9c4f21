-- The whole numbers next to a fraction.
use Rattle.std.proofs.Common.{◌≡◌, ℕ, suc, ◌+◌, ◌*◌, ◌/◌, ◌<◌, sym, ◌∙◌, ap, subst, arith, true, ℤ, pos, neg_ℤ, ◌+ℤ◌, ◌*ℤ◌, ◌≤ℤ◌, ◌<ℤ◌}
use Rattle.std.specs.Int.{int_div_euclid}
use Rattle.std.proofs.lemmas.Int.{ints}
use Rattle.std.proofs.Math.Nat.{div-mul-le_self, lt-div-mul-add}
use lib.IntN.{negsuc}
use Rattle.int_laws.proofs.Ring.{neg_times}
use Rattle.int_laws.proofs.Tests.{tested_at_most, at_most_tested, smaller_factor}
use Rattle.plane_spec.specs.Fractions.{Fraction, is_at_least, is_at_most, floor_of, ceil_of}

-- ---- the floor

-- a whole number of divisors, at most the number
below : (n d : ℤ) → pos 1 ≤ℤ d → (int_div_euclid n d *ℤ d) ≤ℤ n
below (pos a) (pos d) up = let h = div-mul-le_self a d in omega (arith, ints, h)
below (negsuc a) (pos d) up =
    let h : a < a / d * d + d = lt-div-mul-add (omega (arith, ints)) in
    let e : suc (a / d) * d ≡ a / d * d + d = omega arith in
    omega (arith, ints, h, e)
below n (negsuc d) up = absurd (omega (arith, ints))

less_by_one : (q : ℕ) → negsuc q +ℤ pos 1 ≡ neg_ℤ (pos q)
less_by_one q = omega (arith, ints)

-- one divisor more is too many
above : (n d : ℤ) → pos 1 ≤ℤ d → n <ℤ ((int_div_euclid n d +ℤ pos 1) *ℤ d)
above (pos a) (pos d) up =
    let h : a < a / d * d + d = lt-div-mul-add (omega (arith, ints)) in
    let e : (a / d + 1) * d ≡ a / d * d + d = omega arith in
    omega (arith, ints)
above (negsuc a) (pos d) up =
    let h = div-mul-le_self a d in
    let e : (negsuc (a / d) +ℤ pos 1) *ℤ pos d ≡ neg_ℤ (pos (a / d * d)) = ap (λ t. t *ℤ pos d) (less_by_one (a / d)) ∙ neg_times (pos (a / d)) (pos d) in
    subst (λ t. negsuc a <ℤ t) (sym e) (omega (arith, ints))
above n (negsuc d) up = absurd (omega (arith, ints))

pub floor_not_above : (f : Fraction) → pos 1 ≤ℤ f.den → is_at_least f (floor_of f) ≡ true
floor_not_above f up = at_most_tested (floor_of f *ℤ f.den) f.num (below f.num f.den up)

pub floor_greatest : (f : Fraction) → pos 1 ≤ℤ f.den → (z : ℤ) → is_at_least f z ≡ true → z ≤ℤ floor_of f
floor_greatest f up z h =
    let under : (z *ℤ f.den) ≤ℤ f.num = tested_at_most (z *ℤ f.den) f.num h in
    let over = above f.num f.den up in
    let less : z <ℤ (floor_of f +ℤ pos 1) = smaller_factor z (floor_of f +ℤ pos 1) f.den up (omega (arith, ints)) in
    omega (arith, ints)

-- ---- the ceiling

pub ceil_not_below : (f : Fraction) → pos 1 ≤ℤ f.den → is_at_most f (ceil_of f) ≡ true
ceil_not_below f up =
    let under = below (neg_ℤ f.num) f.den up in
    let e = neg_times (int_div_euclid (neg_ℤ f.num) f.den) f.den in
    at_most_tested f.num (ceil_of f *ℤ f.den) (omega (arith, ints))

pub ceil_least : (f : Fraction) → pos 1 ≤ℤ f.den → (z : ℤ) → is_at_most f z ≡ true → ceil_of f ≤ℤ z
ceil_least f up z h =
    let over : f.num ≤ℤ (z *ℤ f.den) = tested_at_most f.num (z *ℤ f.den) h in
    let e = neg_times z f.den in
    let turned : is_at_least (record { num = neg_ℤ f.num; den = f.den }) (neg_ℤ z) ≡ true = at_most_tested (neg_ℤ z *ℤ f.den) (neg_ℤ f.num) (omega (arith, ints)) in
    let less = floor_greatest (record { num = neg_ℤ f.num; den = f.den }) up (neg_ℤ z) turned in
    omega (arith, ints)

-- Signs of products and sums.
use Rattle.std.proofs.Common.{◌≡◌, ℕ, ◌+◌, ◌-◌, ◌*◌, ◌≤◌, ℤ, pos, ◌+ℤ◌, ◌*ℤ◌, neg_ℤ, ◌<ℤ◌, ◌≤ℤ◌, arith, ap, ◌∙◌}
use Rattle.std.proofs.Common.{subst, ◌-ℤ◌}
use Rattle.std.specs.Prelude.{true, false, int_lt, unsigned_abs}
use Rattle.std.proofs.lemmas.Int.{ints, by_lt_z}
use borrow.Author.Differences.{up, down}
use Rattle.int_laws.proofs.Ring.{neg_times, times_neg, times_zero, zero_times, neg_twice, times_minus, times_one}

-- ---- products

apart_by : (x y s t : ℕ) → x * (y + 1 + t) + (x + 1 + s) * y + 1 ≤ (x + 1 + s) * (y + 1 + t) + x * y
apart_by x y s t = omega arith

apart : (x y z w : ℕ) → x + 1 ≤ z → y + 1 ≤ w → x * w + z * y + 1 ≤ z * w + x * y
apart x y z w h k =
    let e : z ≡ x + 1 + (z - (x + 1)) = omega arith in
    let f : w ≡ y + 1 + (w - (y + 1)) = omega arith in
    rw (e, f) (apart_by x y (z - (x + 1)) (w - (y + 1)))

ordered_by : (u d s t : ℕ) → u * (d + 1 + t) + (u + s) * d ≤ u * d + (u + s) * (d + 1 + t)
ordered_by u d s t = omega arith

ordered : (u v d w : ℕ) → u ≤ v → d + 1 ≤ w → u * w + v * d ≤ u * d + v * w
ordered u v d w h k =
    let e : v ≡ u + (v - u) = omega arith in
    let f : w ≡ d + 1 + (w - (d + 1)) = omega arith in
    rw (e, f) (ordered_by u d (v - u) (w - (d + 1)))

-- a product of positive numbers is positive
pub positive_product : (a b : ℤ) → pos 0 <ℤ a → pos 0 <ℤ b → pos 0 <ℤ (a *ℤ b)
positive_product a b h k =
    let g = apart (down a) (down b) (up a) (up b) (omega (arith, ints)) (omega (arith, ints)) in
    omega (arith, ints, g)

-- a number that isn't positive, times a positive one, isn't positive
pub not_positive_product : (a b : ℤ) → a ≤ℤ pos 0 → pos 0 <ℤ b → (a *ℤ b) ≤ℤ pos 0
not_positive_product a b h k =
    let g = ordered (up a) (down a) (down b) (up b) (omega (arith, ints)) (omega (arith, ints)) in
    omega (arith, ints, g)

-- a negative number times a positive one is negative
pub negative_product : (a b : ℤ) → a <ℤ pos 0 → pos 0 <ℤ b → (a *ℤ b) <ℤ pos 0
negative_product a b h k =
    let g = positive_product (neg_ℤ a) b (omega (arith, ints)) k in
    let e = neg_times a b in
    omega (arith, ints, g, e)

-- a product of numbers that aren't negative isn't negative
pub not_negative_product : (a b : ℤ) → pos 0 ≤ℤ a → pos 0 ≤ℤ b → pos 0 ≤ℤ (a *ℤ b)
not_negative_product a b h k =
    by_lt_z (pos 0) b
    (λ p. let g = not_positive_product (neg_ℤ a) b (omega (arith, ints)) p in let e = neg_times a b in omega (arith, ints, g, e))
    (λ q. let none : b ≡ pos 0 = omega (arith, ints) in rw (none, times_zero a) (omega (arith, ints)))

-- a number that isn't positive, times one that isn't negative, isn't positive
pub opposite_product : (a b : ℤ) → a ≤ℤ pos 0 → pos 0 ≤ℤ b → (a *ℤ b) ≤ℤ pos 0
opposite_product a b h k =
    let g = not_negative_product (neg_ℤ a) b (omega (arith, ints)) k in
    let e = neg_times a b in
    omega (arith, ints, g, e)

-- a square isn't negative
pub square : (z : ℤ) → pos 0 ≤ℤ (z *ℤ z)
square z =
    by_lt_z z (pos 0)
    (λ p. let g = not_negative_product (neg_ℤ z) (neg_ℤ z) (omega (arith, ints)) (omega (arith, ints)) in
    let e = neg_times z (neg_ℤ z) in let f = times_neg z z in omega (arith, ints, g, e, f))
    (λ q. not_negative_product z z q q)

-- ---- factors

-- a number whose product with a positive one is positive is positive
pub positive_factor : (a b : ℤ) → pos 0 <ℤ (a *ℤ b) → pos 0 <ℤ b → pos 0 <ℤ a
positive_factor a b h k = by_lt_z (pos 0) a (λ p. p) (λ q. let g = not_positive_product a b q k in absurd (omega (arith, ints)))

-- a number whose product with a positive one isn't positive isn't positive
pub not_positive_factor : (a b : ℤ) → (a *ℤ b) ≤ℤ pos 0 → pos 0 <ℤ b → a ≤ℤ pos 0
not_positive_factor a b h k = by_lt_z (pos 0) a (λ p. let g = positive_product a b p k in absurd (omega (arith, ints))) (λ q. q)

-- a number whose product with a positive one is 0 is 0
pub zero_factor : (a b : ℤ) → a *ℤ b ≡ pos 0 → pos 0 <ℤ b → a ≡ pos 0
zero_factor a b h k =
    let high = not_positive_factor a b (omega (arith, ints)) k in
    let low = not_positive_factor (neg_ℤ a) b (let e = neg_times a b in omega (arith, ints, e)) k in
    omega (arith, ints, high, low)

-- ---- sums

-- the sum of a positive number and one that isn't negative is positive
pub positive_sum : (a b : ℤ) → pos 0 <ℤ a → pos 0 ≤ℤ b → pos 0 <ℤ (a +ℤ b)
positive_sum a b h k = omega (arith, ints)

-- the sum of numbers that aren't positive isn't positive
pub not_positive_sum : (a b : ℤ) → a ≤ℤ pos 0 → b ≤ℤ pos 0 → (a +ℤ b) ≤ℤ pos 0
not_positive_sum a b h k = omega (arith, ints)

-- ---- tests

-- a positive number passes the test
pub positive_tested : (z : ℤ) → pos 0 <ℤ z → int_lt (pos 0) z ≡ true
positive_tested z h = grind (arith, ints)

-- a number that passes the test is positive
pub tested_positive : (z : ℤ) → int_lt (pos 0) z ≡ true → pos 0 <ℤ z
tested_positive z h = omega (arith, ints)

-- a number that isn't positive doesn't pass the test
pub not_positive_tested : (z : ℤ) → z ≤ℤ pos 0 → int_lt (pos 0) z ≡ false
not_positive_tested z h = grind (arith, ints)

-- a number that doesn't pass the test isn't positive
pub tested_not_positive : (z : ℤ) → int_lt (pos 0) z ≡ false → z ≤ℤ pos 0
tested_not_positive z h = omega (arith, ints)

-- ---- signs

-- a number whose product with one that isn't negative is positive is positive
pub up_factor : (a b : ℤ) → pos 0 <ℤ (a *ℤ b) → pos 0 ≤ℤ b → pos 0 <ℤ a
up_factor a b h k =
    by_lt_z (pos 0) b
    (λ p. positive_factor a b h p)
    (λ q. let none : b ≡ pos 0 = omega (arith, ints) in
    let nothing : a *ℤ b ≡ pos 0 = ap (λ t. a *ℤ t) none ∙ times_zero a in
    absurd (omega (arith, ints, h, nothing)))

pub none_times : (x z : ℤ) → x ≡ pos 0 → x *ℤ z ≡ pos 0
none_times x z h = ap (λ t. t *ℤ z) h ∙ zero_times z

neg_product : (x y : ℤ) → neg_ℤ x *ℤ neg_ℤ y ≡ x *ℤ y
neg_product x y = neg_times x (neg_ℤ y) ∙ ap neg_ℤ (times_neg x y) ∙ neg_twice (x *ℤ y)

pub negative_factors : (x y : ℤ) → x ≤ℤ pos 0 → y ≤ℤ pos 0 → pos 0 ≤ℤ (x *ℤ y)
negative_factors x y h k =
    subst (λ t. pos 0 ≤ℤ t) (neg_product x y) (not_negative_product (neg_ℤ x) (neg_ℤ y) (omega (arith, ints))
    (omega (arith, ints)))

pub negative_product_both : (x y : ℤ) → x <ℤ pos 0 → y <ℤ pos 0 → pos 0 <ℤ (x *ℤ y)
negative_product_both x y h k =
    subst (λ t. pos 0 <ℤ t) (neg_product x y) (positive_product (neg_ℤ x) (neg_ℤ y) (omega (arith, ints))
    (omega (arith, ints)))

-- ---- one coordinate

-- a number whose product with a positive one isn't negative isn't negative
pub not_negative_factor : (a b : ℤ) → pos 0 ≤ℤ (a *ℤ b) → pos 0 <ℤ b → pos 0 ≤ℤ a
not_negative_factor a b h k =
    by_lt_z a (pos 0) (λ p. let g = negative_product a b p k in absurd (omega (arith, ints, g, h))) (λ q. q)

-- a number whose product with one that isn't negative is negative is negative
pub negative_by : (x f : ℤ) → (x *ℤ f) <ℤ pos 0 → pos 0 ≤ℤ f → x <ℤ pos 0
negative_by x f h up =
    by_lt_z x (pos 0) (λ p. p) (λ q. let g = not_negative_product x f q up in absurd (omega (arith, ints, g, h)))

pub at_least_times : (m a : ℤ) → pos 0 ≤ℤ m → pos 1 ≤ℤ a → m ≤ℤ (m *ℤ a)
at_least_times m a h k =
    let more = not_negative_product m (a -ℤ pos 1) h (omega (arith, ints, k)) in
    let e = times_minus m a (pos 1) in
    let f = times_one m in
    omega (arith, ints, more, e, f)

pub below_size : (z : ℤ) → pos 0 ≤ℤ (pos (unsigned_abs z) +ℤ z)
below_size z = omega (arith, ints)

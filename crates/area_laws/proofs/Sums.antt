-- Sums over the first numbers.
use Rattle.std.specs.Prelude.{int_lt, if◌then◌else◌}
use Rattle.std.proofs.Common.{pos, suc, zero, ℕ, ℤ, ◌+ℤ◌, arith, refl, ◌≡◌, ◌<◌, neg_ℤ, ◌≤ℤ◌, subst, ◌<ℤ◌, ap}
use Rattle.std.proofs.Common.{◌-ℤ◌}
use Rattle.std.proofs.lemmas.Int.{ints, by_lt_z}
use Rattle.int_laws.proofs.Tests.{less_tested, not_less}

-- ---- sums

-- f 0 + .. + f (n - 1)
abbrev pub sum_to : ℕ → (ℕ → ℤ) → ℤ
sum_to zero f = pos 0
sum_to (suc n) f = sum_to n f +ℤ f n

pub sum_to-same : (n : ℕ) (f g : ℕ → ℤ) → ((i : ℕ) → i < n → f i ≡ g i) → sum_to n f ≡ sum_to n g
sum_to-same zero f g h = refl
sum_to-same (suc n) f g h =
    let rest = sum_to-same n f g (λ i k. h i (omega (arith, k))) in
    let last = h n (omega arith) in
    omega (arith, ints, rest, last)

pub sum_to-plus : (n : ℕ) (f g : ℕ → ℤ) → sum_to n (λ i. f i +ℤ g i) ≡ sum_to n f +ℤ sum_to n g
sum_to-plus zero f g = refl
sum_to-plus (suc n) f g = let rest = sum_to-plus n f g in omega (arith, ints, rest)

pub sum_to-neg : (n : ℕ) (f : ℕ → ℤ) → sum_to n (λ i. neg_ℤ (f i)) ≡ neg_ℤ (sum_to n f)
sum_to-neg zero f = refl
sum_to-neg (suc n) f = let rest = sum_to-neg n f in omega (arith, ints, rest)

pub sum_to-none : (n : ℕ) (f : ℕ → ℤ) → ((i : ℕ) → i < n → f i ≡ pos 0) → sum_to n f ≡ pos 0
sum_to-none zero f h = refl
sum_to-none (suc n) f h =
    let rest = sum_to-none n f (λ i k. h i (omega (arith, k))) in
    let last = h n (omega arith) in
    omega (arith, ints, rest, last)

pub sum_to-not_negative : (n : ℕ) (f : ℕ → ℤ) → ((i : ℕ) → i < n → pos 0 ≤ℤ f i) → pos 0 ≤ℤ sum_to n f
sum_to-not_negative zero f h = omega (arith, ints)
sum_to-not_negative (suc n) f h =
    let rest = sum_to-not_negative n f (λ i k. h i (omega (arith, k))) in
    let last = h n (omega arith) in
    omega (arith, ints, rest, last)

pub sum_to-positive : (n : ℕ) (f : ℕ → ℤ) (i : ℕ) → ((j : ℕ) → j < n → pos 0 ≤ℤ f j) → i < n → pos 0 <ℤ f i
    → pos 0 <ℤ sum_to n f
sum_to-positive zero f i h k more = absurd (omega (arith, k))
sum_to-positive (suc n) f i h k more =
    by_lt_z (pos i) (pos n)
    (λ before. let rest = sum_to-positive n f i (λ j l. h j (omega (arith, l))) (omega (arith, ints, before)) more in
    let last = h n (omega arith) in
    omega (arith, ints, rest, last))
    (λ there. let rest = sum_to-not_negative n f (λ j l. h j (omega (arith, l))) in
    let e : i ≡ n = omega (arith, ints, there, k) in
    let last : pos 0 <ℤ f n = subst (λ t. pos 0 <ℤ f t) e more in
    omega (arith, ints, rest, last))

-- ---- a row

abbrev pub is_before_place : ℤ → ℤ → ℕ → ℤ
is_before_place left x j = if int_lt (left +ℤ pos j) x then pos 1 else pos 0

all_before : (m : ℕ) (left x : ℤ) → (left +ℤ pos m) ≤ℤ x → sum_to m (is_before_place left x) ≡ pos m
all_before zero left x h = refl
all_before (suc m) left x h =
    let rest = all_before m left x (omega (arith, ints, h)) in
    let last : is_before_place left x m ≡ pos 1 = ap (λ t. if t then pos 1 else pos 0)
    (less_tested (left +ℤ pos m) x (omega (arith, ints, h))) in
    omega (arith, ints, rest, last)

-- of the places from `left` on, as many are before x as x is away
pub count_before : (m : ℕ) (left x : ℤ) → left ≤ℤ x → x ≤ℤ (left +ℤ pos m)
    → sum_to m (is_before_place left x) ≡ x -ℤ left
count_before zero left x h k = omega (arith, ints, h, k)
count_before (suc m) left x h k =
    by_lt_z (left +ℤ pos m) x
    (λ p. let all = all_before (suc m) left x (omega (arith, ints, p, k)) in omega (arith, ints, all, p, k))
    (λ q. let rest = count_before m left x h q in
    let last : is_before_place left x m ≡ pos 0 = ap (λ t. if t then pos 1 else pos 0) (not_less (left +ℤ pos m) x q) in
    omega (arith, ints, rest, last))

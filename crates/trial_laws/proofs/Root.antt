-- The least whole number whose square is at least n: its square is, and it is at most each other such number.
use Rattle.std.proofs.Common.{◌≡◌, ◌≤◌, ◌<◌, ◌+◌, ◌*◌, ℕ, zero, suc, Bool, true, false, nat_le, refl, subst, arith}
use Rattle.std.proofs.lemmas.Bool.{cond_both}
use Rattle.std.proofs.lemmas.Nat.{mul-le}
use Rattle.report_spec.specs.Trial.{root_from, root_above}

tested : (n m : ℕ) → nat_le n m ≡ true → n ≤ m
tested n m h = grind arith

tested_more : (n m : ℕ) → nat_le n m ≡ false → m < n
tested_more n m h = grind arith

-- whichever of so many numbers is found, or the last of them
enough_from : (n root more most : ℕ) → root + more ≡ most → n ≤ most * most
    → n ≤ root_from n root more * root_from n root more
enough_from n root zero most last h =
    let same : most ≡ root = omega arith in
    subst (λ r. n ≤ r * r) same h
enough_from n root (suc more) most last h =
    cond_both (nat_le n (root * root)) root (root_from n (root + 1) more) (λ r. n ≤ r * r)
    (λ t. tested n (root * root) t)
    (λ t. enough_from n (root + 1) more most (omega arith) h)

pub root_is_enough : (n : ℕ) → n ≤ root_above n * root_above n
root_is_enough n = enough_from n 0 n n (omega arith) (own n)
  where
    own : (n : ℕ) → n ≤ n * n
    own zero = omega arith
    own (suc n) = omega (arith, mul-le 1 (suc n) (suc n) (suc n) (omega arith) (omega arith))

no_more : (root most : ℕ) → nat_le (root + 1) most ≡ false → most ≤ root
no_more root most t = grind arith

least_from : (n root more most : ℕ) → n ≤ most * most → root ≤ most → root_from n root more ≤ most
least_from n root zero most h below = below
least_from n root (suc more) most h below =
    cond_both (nat_le n (root * root)) root (root_from n (root + 1) more) (λ r. r ≤ most)
    (λ t. below)
    (λ t. least_from n (root + 1) more most h (strictly n root most h (tested_more n (root * root) t)))
  where
    strictly : (n root most : ℕ) → n ≤ most * most → root * root < n → root + 1 ≤ most
    strictly n root most h less = by n root most h less (nat_le (root + 1) most) refl
      where
        by : (n root most : ℕ) → n ≤ most * most → root * root < n → (t : Bool) → nat_le (root + 1) most ≡ t
            → root + 1 ≤ most
        by n root most h less true t = tested (root + 1) most t
        by n root most h less false t =
            absurd (omega (arith, mul-le most most root root (no_more root most t) (no_more root most t)))

pub root_is_least : (n most : ℕ) → n ≤ most * most → root_above n ≤ most
root_is_least n most h = least_from n 0 n most h (omega arith)

pub some_root : (n root : ℕ) → 1 ≤ n → n ≤ root * root → 0 < root
some_root n zero some h = absurd (omega (arith, h, some))
some_root n (suc root) some h = omega arith

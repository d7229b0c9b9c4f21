-- The search for the least whole number whose square is at least n.
use Rattle.std.proofs.Common.{◌≡◌, ◌≤◌, ◌<◌, ◌+◌, ◌*◌, ◌-◌, ℕ, zero, suc, Bool, true, false, nat_le, refl, ap, ◌∙◌, arith}
use Rattle.std.proofs.lemmas.Nat.{mul-le}
use Rattle.report_spec.specs.Trial.{root_from}

-- a number whose square is too small is less than n
pub strictly : (root n : ℕ) → root * root < n → root + 1 ≤ n
strictly zero n less = omega (arith, less)
strictly (suc k) n less = omega (arith, less, mul-le 1 (suc k) (suc k) (suc k) (omega arith) (omega arith))

-- nor is it 16 or more
pub at_most_15 : (root n : ℕ) → n ≤ 250 → root ≤ 16 → root * root < n → root + 1 ≤ 16
at_most_15 root n few small less = by (nat_le (root + 1) 16) refl
  where
    no_less : nat_le (root + 1) 16 ≡ false → 16 ≤ root
    no_less t = grind arith

    by : (t : Bool) → nat_le (root + 1) 16 ≡ t → root + 1 ≤ 16
    by true t = grind arith
    by false t = absurd (omega (arith, few, less, mul-le 16 16 root root (no_less t) (no_less t)))

-- the next one is tried
passed : (n root more : ℕ) → root * root < n → root_from n root (suc more) ≡ root_from n (root + 1) more
passed n root more less = rw (not_found n (root * root) less) refl
  where
    not_found : (n square : ℕ) → square < n → nat_le n square ≡ false
    not_found n square less = grind arith

-- the search goes on
pub next : (n root : ℕ) → root * root < n → root_from n root (n - root) ≡ root_from n (root + 1) (n - (root + 1))
next n root less =
    let one_more : n - root ≡ suc (n - (root + 1)) = omega (arith, strictly root n less) in
    ap (root_from n root) one_more ∙ passed n root (n - (root + 1)) less

-- the search ends
pub found : (n root more : ℕ) → n ≤ root * root → root_from n root more ≡ root
found n root zero enough = refl
found n root (suc more) enough = rw (found_here n (root * root) enough) refl
  where
    found_here : (n square : ℕ) → n ≤ square → nat_le n square ≡ true
    found_here n square enough = grind arith

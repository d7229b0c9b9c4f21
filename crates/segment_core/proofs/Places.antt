-- Lists of which one place is changed.
use Rattle.std.proofs.Common.{◌≡◌, ◌≢◌, ◌<◌, ◌==◌, ℕ, zero, suc, Bool, true, false, List, [], ◌∷◌, ◌++◌, length, get_or, set, cond, take, drop, ◌+◌, ◌⊎◌, inl, inr, refl, sym, ap, ◌∙◌, subst, arith}
use Rattle.std.specs.List.{Contains, filter, range_with_len}
use Rattle.std.proofs.lemmas.List.FromFn.{get_or-range_with_len, length-range_with_len}
use Rattle.graph_laws.proofs.Members.{contains_first, contains_later, first_or_later, contains_none}
use Rattle.std.proofs.Math.Seq.{take-append_seam}
use Rattle.std.proofs.lemmas.Bool.{eqb-true, eqb-false}
use Rattle.std.proofs.lemmas.List.{get_or-set_same, get_or-set_other}

-- what holds of the new value and of the others holds at each place
pub at_set : {X : Type 0} (P : X → Type 0) (xs : List X) (i j : ℕ) (v d : X) → i < length xs → (j ≡ i → P v)
    → (j ≢ i → P (get_or xs j d)) → P (get_or (set xs i v) j d)
at_set {X} P xs i j v d below there elsewhere = by_test (j == i) (eqb-true j i) (eqb-false j i)
  where
    by_test : (b : Bool) → (b ≡ true → j ≡ i) → (b ≡ false → j ≢ i) → P (get_or (set xs i v) j d)
    by_test true same other =
        let e = same refl in
        subst (λ (k : ℕ). P (get_or (set xs i v) k d)) (sym e) (subst P (sym (get_or-set_same xs i v d below))
        (there e))
    by_test false same other =
        let e = other refl in
        subst P (sym (get_or-set_other xs i j v d e)) (elsewhere e)

-- ---- filters

no_both : false ≡ true → ⊥
no_both e = cc

kept_by : {X : Type 0} (p : X → Bool) (w : X) (ys : List X) (x : X) (b : Bool) → p w ≡ b → p x ≡ true
    → (w ≡ x) ⊎ Contains ys x → Contains (cond b (w ∷ ys) ys) x
kept_by p w ys x true e passes (inl first) = subst (λ y. Contains (w ∷ ys) y) first (contains_first w ys)
kept_by p w ys x true e passes (inr later) = contains_later w ys x later
kept_by p w ys x false e passes (inl first) = absurd (no_both (sym (ap p (sym first) ∙ e) ∙ passes))
kept_by p w ys x false e passes (inr later) = later

pub filter_contains : {X : Type 0} (p : X → Bool) (xs : List X) (x : X) → Contains xs x → p x ≡ true
    → Contains (filter p xs) x
filter_contains {X} p [] x h passes = absurd (contains_none x h)
filter_contains {X} p (w ∷ xs) x h passes = elim (first_or_later w xs x h) [
  | inl first ↦ kept_by p w (filter p xs) x (p w) refl passes (inl first)
  | inr later ↦ kept_by p w (filter p xs) x (p w) refl passes (inr (filter_contains p xs x later passes))
]

from_kept : {X : Type 0} (p : X → Bool) (w : X) (ys : List X) (x : X) (b : Bool) → p w ≡ b
    → Contains (cond b (w ∷ ys) ys) x → ((w ≡ x) × (p x ≡ true)) ⊎ Contains ys x
from_kept p w ys x true e g = elim (first_or_later w ys x g) [
  | inl first ↦ inl (first, ap p (sym first) ∙ e)
  | inr later ↦ inr later
]
from_kept p w ys x false e g = inr g

pub filter_from : {X : Type 0} (p : X → Bool) (xs : List X) (x : X) → Contains (filter p xs) x
    → Contains xs x × (p x ≡ true)
filter_from {X} p [] x h = absurd (contains_none x h)
filter_from {X} p (w ∷ xs) x h = elim (from_kept p w (filter p xs) x (p w) refl h) [
  | inl first ↦ (subst (λ y. Contains (w ∷ xs) y) first.0 (contains_first w xs), first.1)
  | inr later ↦ let found = filter_from p xs x later in (contains_later w xs x found.0, found.1)
]

pub in_range_of : (n t : ℕ) → t < n → Contains (range_with_len 0 n) t
in_range_of n t below = (
  t,
  omega (arith, below, length-range_with_len 0 n),
  get_or-range_with_len 0 n t t below
      ∙ omega arith,
)

pub range_below : (n t : ℕ) → Contains (range_with_len 0 n) t → t < n
range_below n t (k, below, is) =
    let low : k < n = omega (arith, below, length-range_with_len 0 n) in
    omega (arith, sym (get_or-range_with_len 0 n k t low) ∙ is, low)

-- two tests that agree on each element keep the same
pub filter_alike : {X : Type 0} (p q : X → Bool) (xs : List X) → ((x : X) → Contains xs x → p x ≡ q x)
    → filter p xs ≡ filter q xs
filter_alike p q [] agree = refl
filter_alike p q (w ∷ xs) agree =
    ap (λ b. cond b (w ∷ filter p xs) (filter p xs)) (agree w (contains_first w xs))
    ∙ ap (λ ys. cond (q w) (w ∷ ys) ys) (filter_alike p q xs (λ x h. agree x (contains_later w xs x h)))

-- ---- lists that are written back

pub written_back : (xs rest : List ℕ) (n : ℕ) → length xs ≡ n → take n (xs ++ rest) ≡ xs
written_back xs rest n e = subst (λ (m : ℕ). take m (xs ++ rest) ≡ xs) e (take-append_seam xs rest)

-- ---- what is left of a list

dropped_next : {X : Type 0} (xs : List X) (n : ℕ) (d : X) → n < length xs → drop n xs ≡ get_or xs n d ∷ drop (suc n) xs
dropped_next [] n d below = absurd (omega (arith, below))
dropped_next (x ∷ xs) zero d below = refl
dropped_next (x ∷ xs) (suc n) d below = dropped_next xs n d (omega (arith, below))

pub dropped : {X : Type 0} (xs : List X) (n : ℕ) (d : X) → n < length xs → drop n xs ≡ get_or xs n d ∷ drop (n + 1) xs
dropped xs n d below =
    let next : suc n ≡ n + 1 = omega arith in
    dropped_next xs n d below ∙ ap (λ (m : ℕ). get_or xs n d ∷ drop m xs) next

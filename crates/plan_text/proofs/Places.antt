-- The place that `position` finds.
use Rattle.std.proofs.Common.{◌≡◌, ℕ, ◌+◌, ◌<◌, ◌≤◌, Some, None, nat_lt, suc, Bool, true, false, cond, not, List, [], ◌∷◌, length, All, refl, arith}
use Rattle.std.specs.List.{position_or_len, position}
use Rattle.std.proofs.lemmas.List.Elements.{All-nil, All-cons}

-- ---- one element more

one_more : (n : ℕ) → 1 + n ≡ suc n
one_more n = omega arith

pub position_or_len-cons_no : {X : Type 0} (p : X → Bool) (x : X) (xs : List X) → p x ≡ false → position_or_len p (x ∷ xs) ≡ suc (position_or_len p xs)
position_or_len-cons_no p x xs e = rw e (one_more (position_or_len p xs))

pub position_or_len-cons_yes : {X : Type 0} (p : X → Bool) (x : X) (xs : List X) → p x ≡ true → position_or_len p (x ∷ xs) ≡ 0
position_or_len-cons_yes p x xs e = rw e refl

-- ---- found, or not found

some_by : (t : Bool) (l k : ℕ) → cond t (Some l) None ≡ Some k → (t ≡ true) × (k ≡ l)
some_by true l k e = (cc, cc)
some_by false l k e = absurd cc

none_by : (t : Bool) (l : ℕ) → cond t (Some l) None ≡ None → t ≡ false
none_by true l e = absurd cc
none_by false l e = cc

within_by : (t : Bool) (m n : ℕ) → m ≤ n → cond t (1 + m) 0 ≤ n + 1
within_by true m n h = omega arith
within_by false m n h = omega arith

pub position_or_len_within : {X : Type 0} (p : X → Bool) (xs : List X) → position_or_len p xs ≤ length xs
position_or_len_within p [] = omega arith
position_or_len_within p (x ∷ xs) = omega (arith, within_by (not (p x)) (position_or_len p xs) (length xs) (position_or_len_within p xs))

pub found : {X : Type 0} (p : X → Bool) (xs : List X) (k : ℕ) → position p xs ≡ Some k → (k ≡ position_or_len p xs) × (k < length xs)
found p xs k e =
    let h = some_by (nat_lt (position_or_len p xs) (length xs)) (position_or_len p xs) k e in
    (h.1, (let d = h.0 in let f = h.1 in grind arith))

pub not_found : {X : Type 0} (p : X → Bool) (xs : List X) → position p xs ≡ None → position_or_len p xs ≡ length xs
not_found p xs e =
    let h = none_by (nat_lt (position_or_len p xs) (length xs)) (position_or_len p xs) e in
    let within = position_or_len_within p xs in
    grind arith

passes_by : {X : Type 0} (p : X → Bool) (t : Bool) (x : X) (xs : List X) → p x ≡ t → cond (not t) (1 + position_or_len p xs) 0 ≡ length xs + 1 →
    (position_or_len p xs ≡ length xs → All (λ y. p y ≡ false) xs) → All (λ y. p y ≡ false) (x ∷ xs)
passes_by p true x xs e h rest = absurd (omega arith)
passes_by p false x xs e h rest = All-cons (λ y. p y ≡ false) x xs e (rest (omega arith))

-- where the place is the length, no element passes
pub none_passes : {X : Type 0} (p : X → Bool) (xs : List X) → position_or_len p xs ≡ length xs → All (λ x. p x ≡ false) xs
none_passes p [] h = All-nil (λ x. p x ≡ false)
none_passes p (x ∷ xs) h = passes_by p (p x) x xs refl (omega (arith, h)) (none_passes p xs)

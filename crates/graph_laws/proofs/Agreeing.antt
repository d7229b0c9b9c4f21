-- Lists made by functions and tests that agree on their elements.
use Rattle.std.specs.Prelude.{◌≡◌, ℕ, zero, suc, ◌+◌, ◌<◌, ◌≤◌, Bool, true, false, cond, List, [], ◌∷◌, map, filter, length}
use Rattle.std.specs.List.{All, count_by, enumerate_from, range_with_len}
use Rattle.std.proofs.Common.{refl, sym, ap, ◌∙◌, arith}
use Rattle.std.proofs.lemmas.List.Elements.{All-nil, All-cons, All-head, All-tail, All-append, All-map}
use Rattle.std.proofs.lemmas.List.Sums.{length-filter}
use Rattle.plane_spec.specs.Lists.{pairs, with_each}

-- functions that agree everywhere
pub map_agree : {X Y : Type 0} (f g : X → Y) → ((x : X) → f x ≡ g x) → (xs : List X) → map f xs ≡ map g xs
map_agree f g agree [] = refl
map_agree f g agree (x ∷ xs) = ap (λ y. y ∷ map f xs) (agree x) ∙ ap (λ ys. g x ∷ ys) (map_agree f g agree xs)

-- functions that agree on the elements
pub map_agree_on : {X Y : Type 0} (f g : X → Y) (xs : List X) → All (λ x. f x ≡ g x) xs → map f xs ≡ map g xs
map_agree_on f g [] agree = refl
map_agree_on f g (x ∷ xs) agree =
    ap (λ y. y ∷ map f xs) (All-head (λ x. f x ≡ g x) x xs agree)
    ∙ ap (λ ys. g x ∷ ys) (map_agree_on f g xs (All-tail (λ x. f x ≡ g x) x xs agree))

-- tests that agree on the elements
pub filter_agree_on : {X : Type 0} (p q : X → Bool) (xs : List X) → All (λ x. p x ≡ q x) xs → filter p xs ≡ filter q xs
filter_agree_on p q [] agree = refl
filter_agree_on p q (x ∷ xs) agree =
    ap (λ t. cond t (x ∷ filter p xs) (filter p xs)) (All-head (λ x. p x ≡ q x) x xs agree)
    ∙ ap (λ ys. cond (q x) (x ∷ ys) ys) (filter_agree_on p q xs (All-tail (λ x. p x ≡ q x) x xs agree))

pub count_agree_on : {X : Type 0} (p q : X → Bool) (xs : List X) → All (λ x. p x ≡ q x) xs
    → count_by p xs ≡ count_by q xs
count_agree_on p q xs agree = sym (length-filter p xs) ∙ ap length (filter_agree_on p q xs agree) ∙ length-filter q xs

-- what a function gives, tested, is what it gives of those whose values pass
pub filter_map_turned : {X Y : Type 0} (f : X → Y) (p : Y → Bool) (xs : List X)
    → filter p (map f xs) ≡ map f (filter (λ x. p (f x)) xs)
filter_map_turned f p [] = refl
filter_map_turned f p (x ∷ xs) = by_test (p (f x)) (filter_map_turned f p xs)
  where
    by_test : (t : Bool) → filter p (map f xs) ≡ map f (filter (λ x. p (f x)) xs)
        → cond t (f x ∷ filter p (map f xs)) (filter p (map f xs))
        ≡ map f (cond t (x ∷ filter (λ x. p (f x)) xs) (filter (λ x. p (f x)) xs))
    by_test true rest = ap (λ ys. f x ∷ ys) rest
    by_test false rest = rest

-- ---- numbers and pairs

pub all_in_range : (P : ℕ → Type 0) (from count : ℕ) → ((k : ℕ) → from ≤ k → k < from + count → P k)
    → All P (range_with_len from count)
all_in_range P from zero h = All-nil P
all_in_range P from (suc count) h =
    All-cons P from (range_with_len (from + 1) count) (h from (omega arith) (omega arith))
    (all_in_range P (from + 1) count (λ k above below. h k (omega arith) (omega arith)))

-- the numbers of a numbered list
pub numbers_are : {X : Type 0} (n : ℕ) (xs : List X)
    → range_with_len n (length xs) ≡ map (λ e. e.0) (enumerate_from n xs)
numbers_are n [] = refl
numbers_are n (x ∷ xs) = ap (λ ks. n ∷ ks) (numbers_are (n + 1) xs)

-- what each element is, both elements of each pair are
pub all_in_pairs : {X : Type 0} (P : X → Type 0) (xs : List X) → All P xs → All (λ e. P e.0 × P e.1) (pairs xs)
all_in_pairs P [] all = All-nil (λ e. P e.0 × P e.1)
all_in_pairs P (x ∷ xs) all =
    let first = All-head P x xs all in
    let later = All-tail P x xs all in
    All-append (λ e. P e.0 × P e.1) (map (with_each x) xs) (pairs xs)
    (All-map (λ e. P e.0 × P e.1) (with_each x) xs (λ k d below. (first, later k d below)))
    (all_in_pairs P xs later)

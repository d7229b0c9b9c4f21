-- Rows of elements one after the other.
use Rattle.std.proofs.Common.{◌≡◌, ◌≤◌, ◌<◌, ◌+◌, ◌^◌, ℕ, suc, Bool, List, [], ◌∷◌, ◌++◌, length, map, drop, filter, refl, ap, append_assoc, arith}
use Rattle.std.specs.List.{enumerate_from}
use Rattle.std.proofs.lemmas.List.{drop_all, length-map}
use Rattle.std.proofs.lemmas.List.Sums.{count_by-le-length, length-filter}

-- the rows of those that are left, where there are others
pub mapped_first : {X Y : Type 0} (f : X → Y) (xs : List X) (k : ℕ) (x : X) → drop k xs ≡ x ∷ drop (k + 1) xs
    → map f (drop k xs) ≡ f x ∷ map f (drop (k + 1) xs)
mapped_first f xs k x e = ap (map f) e

-- and where there are none
pub mapped_none : {X Y : Type 0} (f : X → Y) (xs : List X) (k : ℕ) → length xs ≤ k → map f (drop k xs) ≡ []
mapped_none f xs k all = ap (map f) (drop_all k xs all)

-- the same of elements beside their numbers
pub numbered_first : {X Y : Type 0} (f : ℕ × X → Y) (xs : List X) (k : ℕ) (x : X) → drop k xs ≡ x ∷ drop (k + 1) xs
    → map f (enumerate_from k (drop k xs)) ≡ f (k, x) ∷ map f (enumerate_from (k + 1) (drop (k + 1) xs))
numbered_first f xs k x e = ap (λ ys. map f (enumerate_from k ys)) e

pub numbered_none : {X Y : Type 0} (f : ℕ × X → Y) (xs : List X) (k : ℕ) → length xs ≤ k
    → map f (enumerate_from k (drop k xs)) ≡ []
numbered_none f xs k all = ap (λ ys. map f (enumerate_from k ys)) (drop_all k xs all)

-- how many they are
numbered_length : {X : Type 0} (k : ℕ) (xs : List X) → length (enumerate_from k xs) ≡ length xs
numbered_length k [] = refl
numbered_length k (x ∷ xs) = ap suc (numbered_length (k + 1) xs)

pub numbered_few : {X Y : Type 0} (f : ℕ × X → Y) (k : ℕ) (xs : List X) → length xs < 2 ^ 64
    → length (map f (enumerate_from k xs)) < 2 ^ 64
numbered_few f k xs few = omega (arith, length-map (enumerate_from k xs) f, numbered_length k xs, few)

-- ---- fields that are added to a record

pub one_more : (row : List (List ℕ)) (field : List ℕ) (fields : List (List ℕ))
    → (row ++ field ∷ []) ++ fields ≡ row ++ field ∷ fields
one_more row field fields = append_assoc row (field ∷ []) fields

pub some_more : (row some more : List (List ℕ)) → (row ++ some) ++ more ≡ row ++ (some ++ more)
some_more row some more = append_assoc row some more

-- ---- those of a list that pass a test

-- how many rows they give
pub open_few : {X Y Z : Type 0} (g : Y → Z) (f : ℕ × X → Y) (p : ℕ × X → Bool) (k : ℕ) (xs : List X)
    → length xs < 2 ^ 64 → length (map g (map f (filter p (enumerate_from k xs)))) < 2 ^ 64
open_few g f p k xs few =
    let numbered = enumerate_from k xs in
    omega (
      arith,
      length-map (map f (filter p numbered)) g,
      length-map (filter p numbered) f,
      length-filter p numbered,
      count_by-le-length p numbered,
      numbered_length k xs,
      few,
    )

-- none are left
pub open_none : {X : Type 0} (p : ℕ × X → Bool) (k : ℕ) (xs : List X) → length xs ≤ k
    → filter p (enumerate_from k (drop k xs)) ≡ []
open_none p k xs all = ap (λ ys. filter p (enumerate_from k ys)) (drop_all k xs all)

-- Tests of each two elements of a list.
use Rattle.std.specs.Prelude.{◌≡◌, ℕ, ◌+◌, Bool, true, false, cond, ◌&&◌, List, [], ◌∷◌, ◌++◌, map, filter}
use Rattle.std.specs.List.{list_all, enumerate_from}
use Rattle.std.proofs.Common.{refl, sym, ap, ◌∙◌}
use Rattle.std.proofs.lemmas.Bool.{and_from, and_parts}
use Rattle.std.proofs.lemmas.List.{map-append}
use Rattle.std.proofs.Math.Bool.{and_assoc}
use Rattle.list_laws.proofs.Conditions.{and_left_comm}
use Rattle.std.proofs.lemmas.List.Folds.{list_all-append, list_all-map}
use Rattle.plane_spec.specs.Lists.{pairs, with_each, numbered_pairs}
use Rattle.plan_spec.specs.Accepted.{each_two}
use Rattle.list_laws.proofs.Tests.{list_all_push, list_all_middle, list_all_filter}

pub each_two_cons : {X : Type 0} (r : X → X → Bool) (x : X) (xs : List X) → each_two r (x ∷ xs) ≡ (list_all (r x) xs && each_two r xs)
each_two_cons r x xs =
    list_all-append (λ e. r e.0 e.1) (map (with_each x) xs) (pairs xs)
    ∙ ap (λ t. t && each_two r xs) (list_all-map (λ e. r e.0 e.1) (with_each x) xs)

-- an element in the middle, taken out
pub each_two_middle : {X : Type 0} (r : X → X → Bool) (xs : List X) (y : X) (ys : List X)
    → each_two r (xs ++ y ∷ ys) ≡ ((list_all (λ x. r x y) xs && list_all (r y) ys) && each_two r (xs ++ ys))
each_two_middle r [] y ys = each_two_cons r y ys
each_two_middle r (x ∷ xs) y ys =
    simp (each_two_cons r x (xs ++ y ∷ ys), each_two_cons r x (xs ++ ys), list_all_middle (r x) xs y ys, each_two_middle r xs y ys, and_assoc, and_left_comm)
    (ap (λ t. r x y && (list_all (r y) ys && t)) (and_left_comm (list_all (λ z. r z y) xs) (list_all (r x) (xs ++ ys)) (each_two r (xs ++ ys))))

pub each_two_push : {X : Type 0} (r : X → X → Bool) (xs : List X) (y : X) → each_two r (xs ++ y ∷ []) ≡ (each_two r xs && list_all (λ x. r x y) xs)
each_two_push r [] y = refl
each_two_push r (x ∷ xs) y =
    simp (each_two_cons r x (xs ++ y ∷ []), each_two_cons r x xs, list_all_push (r x) xs y, each_two_push r xs y, and_assoc, and_left_comm)

-- ---- the pairs of what a function gives

unfoldable pub each_of_pair : {X Y : Type 0} → (X → Y) → X × X → Y × Y
each_of_pair f e = (f e.0, f e.1)

with_each_map : {X Y : Type 0} (f : X → Y) (x : X) (xs : List X) → map (with_each (f x)) (map f xs) ≡ map (each_of_pair f) (map (with_each x) xs)
unfolding each_of_pair
with_each_map f x [] = refl
with_each_map f x (y ∷ xs) = ap (λ t. (f x, f y) ∷ t) (with_each_map f x xs)

pub pairs_map : {X Y : Type 0} (f : X → Y) (xs : List X) → pairs (map f xs) ≡ map (each_of_pair f) (pairs xs)
pairs_map f [] = refl
pairs_map f (x ∷ xs) =
    ap (λ t. t ++ pairs (map f xs)) (with_each_map f x xs)
    ∙ ap (λ t. map (each_of_pair f) (map (with_each x) xs) ++ t) (pairs_map f xs)
    ∙ sym (map-append (each_of_pair f) (map (with_each x) xs) (pairs xs))

unfoldable pub beside_number : {X Y : Type 0} → (X → Y) → ℕ × X → ℕ × Y
beside_number f e = (e.0, f e.1)

pub numbers_map : {X Y : Type 0} (f : X → Y) (n : ℕ) (xs : List X) → enumerate_from n (map f xs) ≡ map (beside_number f) (enumerate_from n xs)
unfolding beside_number
numbers_map f n [] = refl
numbers_map f n (x ∷ xs) = ap (λ t. (n, f x) ∷ t) (numbers_map f (n + 1) xs)

pub numbered_pairs_map : {X Y : Type 0} (f : X → Y) (xs : List X) → numbered_pairs (map f xs) ≡ map (each_of_pair (beside_number f)) (numbered_pairs xs)
numbered_pairs_map f xs = ap pairs (numbers_map f 0 xs) ∙ pairs_map (beside_number f) (enumerate_from 0 xs)

-- what each two elements pass, each two of those that are kept pass
pub each_two_filter : {X : Type 0} (r : X → X → Bool) (q : X → Bool) (xs : List X) → each_two r xs ≡ true → each_two r (filter q xs) ≡ true
each_two_filter r q [] h = refl
each_two_filter r q (x ∷ xs) h =
    by_test (q x) (list_all_filter (r x) q xs (and_parts (list_all (r x) xs) (each_two r xs) parts).0) (each_two_filter r q xs (and_parts (list_all (r x) xs) (each_two r xs) parts).1)
  where
    parts : (list_all (r x) xs && each_two r xs) ≡ true
    parts = sym (each_two_cons r x xs) ∙ h

    by_test : (t : Bool) → list_all (r x) (filter q xs) ≡ true → each_two r (filter q xs) ≡ true → each_two r (cond t (x ∷ filter q xs) (filter q xs)) ≡ true
    by_test true first rest = each_two_cons r x (filter q xs) ∙ and_from (list_all (r x) (filter q xs)) (each_two r (filter q xs)) first rest
    by_test false first rest = rest

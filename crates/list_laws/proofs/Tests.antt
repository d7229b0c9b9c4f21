-- Tests of every element, of any element, and what passes a test, over lists with one more element.
use Rattle.std.specs.Prelude.{◌≡◌, ◌+◌, Bool, true, false, not, cond, ◌&&◌, ◌||◌, List, [], ◌∷◌, ◌++◌, map, filter}
use Rattle.std.specs.Prelude.{count_by}
use Rattle.std.specs.List.{list_all, list_any}
use Rattle.std.proofs.Common.{refl, sym, ap, ◌∙◌, arith}
use Rattle.std.proofs.lemmas.Bool.{and_from, and_parts, or_parts}
use Rattle.std.proofs.lemmas.List.Folds.{fold-map}
use Rattle.std.proofs.Math.Bool.{and_assoc, or_assoc}
use Rattle.list_laws.proofs.Conditions.{and_left_comm, or_left_comm}

-- ---- tests of two lists joined by one element

-- all of a list with one more
pub list_all_push : {X : Type 0} (p : X → Bool) (xs : List X) (y : X)
    → list_all p (xs ++ y ∷ []) ≡ (list_all p xs && p y)
list_all_push p [] y = grind arith
list_all_push p (x ∷ xs) y = grind (arith, list_all_push p xs y)

-- any of a list with one more
pub list_any_push : {X : Type 0} (p : X → Bool) (xs : List X) (y : X)
    → list_any p (xs ++ y ∷ []) ≡ (list_any p xs || p y)
list_any_push p [] y = grind arith
list_any_push p (x ∷ xs) y = grind (arith, list_any_push p xs y)

-- an element in the middle, taken out
pub list_all_middle : {X : Type 0} (p : X → Bool) (xs : List X) (y : X) (ys : List X)
    → list_all p (xs ++ y ∷ ys) ≡ (p y && list_all p (xs ++ ys))
list_all_middle p [] y ys = refl
list_all_middle p (x ∷ xs) y ys = simp (list_all_middle p xs y ys, and_left_comm)

-- ---- tests made of tests

-- both of two tests
pub list_all_and : {X : Type 0} (p q : X → Bool) (xs : List X)
    → list_all (λ x. p x && q x) xs ≡ (list_all p xs && list_all q xs)
list_all_and p q [] = refl
list_all_and p q (x ∷ xs) = simp (list_all_and p q xs, and_assoc, and_left_comm)

-- none passes
pub list_all_not : {X : Type 0} (p : X → Bool) (xs : List X) → list_all (λ x. not (p x)) xs ≡ not (list_any p xs)
list_all_not p [] = refl
list_all_not p (x ∷ xs) = step (p x) (list_all_not p xs)
  where
    step : (t : Bool) → list_all (λ x. not (p x)) xs ≡ not (list_any p xs) → (not t && list_all (λ x. not (p x)) xs)
        ≡ not (t || list_any p xs)
    step true h = refl
    step false h = h

-- what all elements pass, those that are kept pass
pub list_all_filter : {X : Type 0} (p q : X → Bool) (xs : List X) → list_all p xs ≡ true
    → list_all p (filter q xs) ≡ true
list_all_filter p q [] h = refl
list_all_filter p q (x ∷ xs) h = grind (arith, list_all_filter p q xs)

-- tests that agree are passed by all alike
pub list_all_agree : {X : Type 0} (p q : X → Bool) → ((x : X) → p x ≡ q x) → (xs : List X)
    → list_all p xs ≡ list_all q xs
list_all_agree p q h [] = refl
list_all_agree p q h (x ∷ xs) = rw (h x, list_all_agree p q h xs)

-- a test of what a function gives
pub list_any_map : {X Y : Type 0} (p : Y → Bool) (h : X → Y) (xs : List X)
    → list_any p (map h xs) ≡ list_any (λ x. p (h x)) xs
list_any_map p h [] = refl
list_any_map p h (x ∷ xs) = ap (λ t. p (h x) || t) (list_any_map p h xs)

-- tests that agree are passed by any alike
pub list_any_agree : {X : Type 0} (p q : X → Bool) → ((x : X) → p x ≡ q x) → (xs : List X)
    → list_any p xs ≡ list_any q xs
list_any_agree p q h [] = refl
list_any_agree p q h (x ∷ xs) = rw (h x, list_any_agree p q h xs)

-- as many of what a function gives
pub count_map : {X Y : Type 0} (p : Y → Bool) (h : X → Y) (xs : List X)
    → count_by p (map h xs) ≡ count_by (λ x. p (h x)) xs
count_map p h xs = fold-map (λ n y. n + cond (p y) 1 0) h 0 xs

-- ---- lists with an element in the middle

-- any of a list, its middle element first
pub list_any_middle : {X : Type 0} (p : X → Bool) (xs : List X) (y : X) (ys : List X)
    → list_any p (xs ++ y ∷ ys) ≡ (p y || list_any p (xs ++ ys))
list_any_middle p [] y ys = refl
list_any_middle p (x ∷ xs) y ys =
    ap (λ t. p x || t) (list_any_middle p xs y ys) ∙ or_left_comm (p x) (p y) (list_any p (xs ++ ys))

-- ---- tests of two lists at once

-- one of two tests
pub list_any_or : {X : Type 0} (p q : X → Bool) (xs : List X)
    → list_any (λ x. p x || q x) xs ≡ (list_any p xs || list_any q xs)
list_any_or p q [] = refl
list_any_or p q (x ∷ xs) = simp (list_any_or p q xs, or_assoc, or_left_comm)

-- a test that always fails is passed by none
list_any_of_nothing : {X : Type 0} (xs : List X) → false ≡ list_any (λ x. false) xs
list_any_of_nothing [] = refl
list_any_of_nothing (x ∷ xs) = list_any_of_nothing xs

-- whether one of these and one of those are related, asked from either side
pub list_any_turned : {X Y : Type 0} (r : X → Y → Bool) (xs : List X) (ys : List Y)
    → list_any (λ x. list_any (r x) ys) xs ≡ list_any (λ y. list_any (λ x. r x y) xs) ys
list_any_turned r [] ys = list_any_of_nothing ys
list_any_turned r (x ∷ xs) ys =
    ap (λ t. list_any (r x) ys || t) (list_any_turned r xs ys)
    ∙ sym (list_any_or (r x) (λ y. list_any (λ z. r z y) xs) ys)

-- ---- where no element passes the test

-- then nothing passes
pub filter_none : {X : Type 0} (p : X → Bool) (xs : List X) → list_any p xs ≡ false → filter p xs ≡ []
filter_none p [] h = refl
filter_none p (x ∷ xs) h =
    rw (or_parts (p x) (list_any p xs) h).0 (filter_none p xs (or_parts (p x) (list_any p xs) h).1)

-- and all is left of what fails
pub filter_not_none : {X : Type 0} (p : X → Bool) (xs : List X) → list_any p xs ≡ false
    → filter (λ x. not (p x)) xs ≡ xs
filter_not_none p [] h = refl
filter_not_none p (x ∷ xs) h =
    rw (or_parts (p x) (list_any p xs) h).0
    (ap (λ t. x ∷ t) (filter_not_none p xs (or_parts (p x) (list_any p xs) h).1))

-- and a function of those that pass changes nothing
pub map_none : {X : Type 0} (p : X → Bool) (f : X → X) (xs : List X) → list_any p xs ≡ false
    → map (λ x. cond (p x) (f x) x) xs ≡ xs
map_none p f [] h = refl
map_none p f (x ∷ xs) h =
    rw (or_parts (p x) (list_any p xs) h).0 (ap (λ t. x ∷ t) (map_none p f xs (or_parts (p x) (list_any p xs) h).1))

-- what is found among those that are kept is found among all
pub list_any_filter : {X : Type 0} (p q : X → Bool) (xs : List X) → list_any p xs ≡ false
    → list_any p (filter q xs) ≡ false
list_any_filter p q [] h = refl
list_any_filter p q (x ∷ xs) h =
    by_test (q x) (or_parts (p x) (list_any p xs) h).0 (list_any_filter p q xs (or_parts (p x) (list_any p xs) h).1)
  where
    by_test : (t : Bool) → p x ≡ false → list_any p (filter q xs) ≡ false
        → list_any p (cond t (x ∷ filter q xs) (filter q xs)) ≡ false
    by_test true first rest = rw first rest
    by_test false first rest = rest

-- a test that follows from another
pub list_all_weaker : {X : Type 0} (p q : X → Bool) → ((x : X) → p x ≡ true → q x ≡ true) → (xs : List X)
    → list_all p xs ≡ true → list_all q xs ≡ true
list_all_weaker p q h [] e = refl
list_all_weaker p q h (x ∷ xs) e =
    and_from (q x) (list_all q xs) (h x (and_parts (p x) (list_all p xs) e).0)
    (list_all_weaker p q h xs (and_parts (p x) (list_all p xs) e).1)

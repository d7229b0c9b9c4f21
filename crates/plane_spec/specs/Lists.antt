-- Lists: pairs of elements, elements that are like none before them, the first of the least, elements in order.
use Rattle.std.specs.Prelude.{ℕ, List, [], ◌∷◌, ◌++◌, map, Bool, if◌then◌else◌, Option, Some, None}
use Rattle.std.specs.List.{list_any, enumerate_from, best_of}

-- the pair of two elements
abbrev pub with_each : {X : Type 0} → X → X → X × X
with_each x y = (x, y)

-- each element with each of those after it, in order
abbrev pub pairs : {X : Type 0} → List X → List (X × X)
pairs [] = []
pairs (x ∷ xs) = map (with_each x) xs ++ pairs xs

-- the pairs of the elements, each beside its number, counted from 0
abbrev pub numbered_pairs : {X : Type 0} → List X → List ((ℕ × X) × (ℕ × X))
numbered_pairs xs = pairs (enumerate_from 0 xs)

-- the elements that are like none of those before them, nor like one of `before`
abbrev pub distinct_after : {X : Type 0} → (X → X → Bool) → List X → List X → List X
distinct_after alike before [] = []
distinct_after alike before (x ∷ xs) =
    if list_any (alike x) before then distinct_after alike (x ∷ before) xs else (x ∷ distinct_after alike (x ∷ before) xs)

-- the elements that are like none of those before them
abbrev pub distinct_by : {X : Type 0} → (X → X → Bool) → List X → List X
distinct_by alike xs = distinct_after alike [] xs

-- the first element that none comes before
abbrev pub min_by : {X : Type 0} → (X → X → Bool) → List X → Option X
min_by comes_before [] = None
min_by comes_before (x ∷ xs) = Some (best_of comes_before x xs)

-- the list with the element put before the first that doesn't come before it
abbrev pub inserted_by : {X : Type 0} → (X → X → Bool) → X → List X → List X
inserted_by comes_before x [] = x ∷ []
inserted_by comes_before x (y ∷ ys) = if comes_before y x then y ∷ inserted_by comes_before x ys else x ∷ y ∷ ys

-- the elements in order, equal ones as they stood
abbrev pub in_order : {X : Type 0} → (X → X → Bool) → List X → List X
in_order comes_before [] = []
in_order comes_before (x ∷ xs) = inserted_by comes_before x (in_order comes_before xs)

-- Two lists in order, merged into one.
use Rattle.std.specs.Prelude.{Bool, List, [], ◌∷◌, if◌then◌else◌}

-- x, and what `rest` makes of the elements left, in its place among ys
abbrev pub merged_into : {X : Type 0} → (X → X → Bool) → X → (List X → List X) → List X → List X
merged_into before x rest [] = x ∷ rest []
merged_into before x rest (y ∷ ys) =
    if before x y then (x ∷ rest (y ∷ ys)) else (y ∷ merged_into before x rest ys)

-- the elements of both lists: always next that of the first, where it comes before that of the second, or else this
abbrev pub merged : {X : Type 0} → (X → X → Bool) → List X → List X → List X
merged before [] ys = ys
merged before (x ∷ xs) ys = merged_into before x (merged before xs) ys

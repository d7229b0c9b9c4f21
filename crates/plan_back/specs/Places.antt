-- Places in a list, counted from 0.
use Rattle.std.specs.Prelude.{ℕ, ◌+◌, Bool, List, [], ◌∷◌, ◌++◌, take, drop, Option, Some, None, if◌then◌else◌}

-- the list with x at the place; what stood there and after it moves up by one
abbrev pub put_at : {X : Type 0} → ℕ → X → List X → List X
put_at place x xs = take place xs ++ x ∷ drop place xs

-- the first element that passes the test, with its place, where the list begins at the place k
abbrev pub first_from : {X : Type 0} → ℕ → (X → Bool) → List X → Option (ℕ × X)
first_from k test [] = None
first_from k test (x ∷ xs) = if test x then Some (k, x) else first_from (k + 1) test xs

-- Rows of elements one after the other.
use Rattle.std.proofs.Common.{◌≡◌, ◌≤◌, ℕ, List, [], length, map, drop, ap}
use Rattle.std.proofs.lemmas.List.{drop_all}

-- the rows of those that are left, where there are none
pub mapped_none : {X Y : Type 0} (f : X → Y) (xs : List X) (k : ℕ) → length xs ≤ k → map f (drop k xs) ≡ []
mapped_none f xs k all = ap (map f) (drop_all k xs all)

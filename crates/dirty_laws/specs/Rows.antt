-- Edges of a graph as pairs of numbers, the smaller first, and those of one row.
use Rattle.std.specs.Prelude.{ℕ, ◌==◌, Bool, ◌&&◌, List}
use Rattle.std.specs.List.{list_any}

-- the edge joins i to a larger number
abbrev pub begins_at : ℕ → ℕ × ℕ → Bool
begins_at i e = e.0 == i

-- i and j, the smaller number, are joined by one of the edges
abbrev pub is_edge : List (ℕ × ℕ) → ℕ → ℕ → Bool
is_edge edges i j = list_any (λ e. (e.0 == i) && (e.1 == j)) edges

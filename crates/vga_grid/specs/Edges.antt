-- The edges of a graph that are still to come.
use Rattle.std.specs.Prelude.{ℕ, ◌+◌, ◌-◌, ◌++◌, List, map}
use Rattle.std.specs.List.{filter, flat_map, range_with_len}
use Rattle.graph_spec.specs.Graphs.{Graph}

-- the edges from i to j and to the nodes after it
abbrev pub row_from : Graph → ℕ → ℕ → List (ℕ × ℕ)
row_from g i j = map (λ b. (i, b)) (filter (g.joins i) (range_with_len j (g.count - j)))

-- the edges whose first end is i or later, the second end later still
abbrev pub rows_from : Graph → ℕ → List (ℕ × ℕ)
rows_from g i = flat_map (λ a. row_from g a (a + 1)) (range_with_len i (g.count - i))

-- the edges from the pair (i, j) on
unfoldable pub edges_left : Graph → ℕ → ℕ → List (ℕ × ℕ)
edges_left g i j = row_from g i j ++ rows_from g (i + 1)

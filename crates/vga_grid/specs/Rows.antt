-- Graphs as rows of bits.
use Rattle.std.specs.Prelude.{◌≡◌, ℕ, ◌+◌, ◌*◌, ◌/◌, ◌%◌, ◌<◌, ◌≤◌, Bool, false, ◌&&◌, ◌||◌, ◌==◌, List, length, slice_index, nat_lt}
use Rattle.std.specs.Int.{bit_at}
use Rattle.graph_spec.specs.Graphs.{Graph, IsSimpleGraph}
use Rattle.vga_grid.specs.declared.limits.TheConstants.{MAX_NODES}

-- a square of bits over so many nodes: rows of words, one after another
pub record Matrix : Type 0 where
  pub count : ℕ
  pub words : List ℕ

-- how many words of 64 bits a row of n bits takes
abbrev pub width : ℕ → ℕ
width n = (n + 63) / 64

-- bit v of the words, counted from the lowest bit of the first
abbrev pub bit_of : List ℕ → ℕ → Bool
bit_of words v = bit_at (slice_index words (v / 64)) (v % 64) == 1

-- bit j of row i, where rows have n bits
abbrev pub bit_in : List ℕ → ℕ → ℕ → ℕ → Bool
bit_in words n i j = bit_at (slice_index words (i * width n + j / 64)) (j % 64) == 1

-- the nodes i and j are joined by an edge
unfoldable pub is_joined : Matrix → ℕ → ℕ → Bool
is_joined m i j = (nat_lt i m.count && nat_lt j m.count) && bit_in m.words m.count i j

-- the graph that the bits tell
abbrev pub graph_of : Matrix → Graph
graph_of m = record { count = m.count; joins = is_joined m }

-- a and b are i and j, in one order or the other
abbrev pub is_pair : ℕ → ℕ → ℕ → ℕ → Bool
is_pair i j a b = (a == i && b == j) || (a == j && b == i)

-- the rows of a simple graph that isn't too large, a row a node, whose bits past the last node are 0
pub record AreRows (m : Matrix) : Type 0 where
  pub at_most : m.count ≤ MAX_NODES
  pub simple : IsSimpleGraph (graph_of m)
  pub sized : length m.words ≡ m.count * width m.count
  pub unused : (i j : ℕ) → m.count ≤ j → j / 64 < width m.count → bit_in m.words m.count i j ≡ false

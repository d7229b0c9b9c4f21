-- The graphs of a fill: the one that it begins with, and the one that it makes.
use Rattle.std.specs.Prelude.{◌≡◌, ℕ, ◌+◌, ◌*◌, ◌%◌, ◌<◌, ◌==◌, ◌&&◌, nat_lt, Bool, List, ◌∷◌, length, slice_index}
use Rattle.std.specs.Int.{bit_at}
use Rattle.atomic_table.specs.Table.{State}
use Rattle.graph_spec.specs.Graphs.{IsSimpleGraph}
use Rattle.plan_spec.specs.Plan.{Plan}
use Rattle.sight_spec.specs.Visibility.{visibility_graph}
use Rattle.vga_grid.specs.Rows.{width, graph_of, is_joined, Matrix}
use Rattle.vga_fill.specs.declared.events.View.{View}
use Rattle.vga_fill.specs.declared.events.Task.{Task}
use Rattle.vga_fill.specs.Places.{bit_of, word_of}
use Rattle.vga_fill.specs.Filling.{Kept}

-- i and j are joined before
abbrev pub was_joined : Task → ℕ → ℕ → Bool
was_joined k = is_joined k.old.value

-- the visibility graph of the plan joins i and j: both points are open, and they see each other
unfoldable pub is_edge_of : Plan → ℕ → ℕ → Bool
is_edge_of plan i j = (visibility_graph plan).joins i j

-- i and j are to be joined
abbrev pub is_to_join : Task → ℕ → ℕ → Bool
is_to_join k = is_edge_of k.after.value

-- the words are rows of n nodes, joined where the test says so
pub record AreRowsOf (joins : ℕ → ℕ → Bool) (n : ℕ) (words : List ℕ) : Type 0 where
  pub fits : length words ≡ n * width n
  pub bits : (w b : ℕ) → w < n * width n → b < 64 → bit_at (slice_index words w) b ≡ bit_of joins n (w + 1) b

-- the words begin with no claims, and the rows of the graph follow
pub record AreFirstWords (m : Matrix) (words : List ℕ) : Type 0 where
  pub rows : List ℕ
  pub words_are : words ≡ 0 ∷ rows
  pub rows_are : AreRowsOf (is_joined m) m.count rows

-- the place (i, j) is 1
abbrev pub is_one : List ℕ → ℕ → ℕ → ℕ → Bool
is_one words n i j = bit_at (slice_index words (word_of n i j)) (j % 64) == 1

-- the graph of so many nodes joins two of them exactly where the place in the smaller one's row is 1
pub record IsReadFrom (words : List ℕ) (n : ℕ) (graph : Matrix) : Type 0 where
  pub count : graph.count ≡ n
  pub simple : IsSimpleGraph (graph_of graph)
  pub joined : (a b : ℕ) → a < b → is_joined graph a b ≡ (nat_lt b n && is_one words n a b)

-- the rule of a fill: bits are those of its two graphs
abbrev pub Rule : Task → State (Unit {0}) View → Type 0
Rule k s = Kept k.count (bit_of (was_joined k) k.count) (bit_of (is_to_join k) k.count) s

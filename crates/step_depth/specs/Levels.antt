-- What a step from one level to the next does.
use Rattle.std.specs.Prelude.{◌≡◌, ℕ, ◌+◌, ◌*◌, ◌<◌, ◌&&◌, ◌==◌, Bool, true, false, nat_lt, List, slice_index, slice_index_or, Option, None, Some}
use Rattle.graph_spec.specs.Graphs.{Graph, depth_of}
use Rattle.vga_grid.specs.Sets.{is_set}

-- of the missing nodes those remain that are no neighbours of the first nodes of the list; no other is gone but neighbours of listed nodes
pub record IsPushed (joins : ℕ → ℕ → Bool) (list : List ℕ) (listed done : ℕ) (before after : ℕ → Bool) : Type 0 where
  pub fewer : (v : ℕ) → after v ≡ true → before v ≡ true
  pub found : (v : ℕ) → before v ≡ true → after v ≡ false → (t : ℕ) × (t < listed) × (joins (slice_index list t) v ≡ true)
  pub pushed : (t v : ℕ) → t < done → joins (slice_index list t) v ≡ true → after v ≡ false

-- of the missing nodes those remain that are no neighbours of the nodes of word k; no other is gone
pub record IsWordPushed (joins : ℕ → ℕ → Bool) (k word : ℕ) (before after : ℕ → Bool) : Type 0 where
  pub fewer : (v : ℕ) → after v ≡ true → before v ≡ true
  pub found : (v : ℕ) → before v ≡ true → after v ≡ false → (b : ℕ) × (b < 64) × (is_set word b ≡ true) × (joins (64 * k + b) v ≡ true)
  pub pushed : (b v : ℕ) → b < 64 → is_set word b ≡ true → joins (64 * k + b) v ≡ true → after v ≡ false

-- no missing nodes are gone but neighbours of the front
pub record IsPart (joins : ℕ → ℕ → Bool) (front before after : ℕ → Bool) : Type 0 where
  pub fewer : (v : ℕ) → after v ≡ true → before v ≡ true
  pub found : (v : ℕ) → before v ≡ true → after v ≡ false → (u : ℕ) × (front u ≡ true) × (joins u v ≡ true)

-- of the missing nodes those remain that have no neighbour in the front
pub record IsLooked (joins : ℕ → ℕ → Bool) (front before after : ℕ → Bool) : Type 0 where
  pub fewer : (v : ℕ) → after v ≡ true → before v ≡ true
  pub found : (v : ℕ) → before v ≡ true → after v ≡ false → (u : ℕ) × (front u ≡ true) × (joins u v ≡ true)
  pub none : (u v : ℕ) → front u ≡ true → joins u v ≡ true → after v ≡ false

-- a set of nodes that no edge leaves
pub record IsClosed (graph : Graph) (known : ℕ → Bool) : Type 0 where
  pub nodes : (v : ℕ) → known v ≡ true → v < graph.count
  pub kept : (u v : ℕ) → known u ≡ true → graph.joins u v ≡ true → known v ≡ true

-- the depth is so much
abbrev pub is_at : ℕ → Option ℕ → Bool
is_at d None = false
is_at d (Some k) = k == d

-- there is no depth, or it is more than so much
abbrev pub is_beyond : ℕ → Option ℕ → Bool
is_beyond d None = true
is_beyond d (Some k) = nat_lt d k

-- the front has the nodes at a depth from i, and what is left the known nodes beyond it
pub record Level (graph : Graph) (i : ℕ) (known : ℕ → Bool) (d : ℕ) (front left : ℕ → Bool) : Type 0 where
  pub ahead : (v : ℕ) → front v ≡ is_at d (depth_of graph i v)
  pub beyond : (v : ℕ) → left v ≡ (known v && is_beyond d (depth_of graph i v))

-- the nodes of the front are marked with a depth, and the others as before
pub record IsMarked (depth : ℕ) (front : ℕ → Bool) (before after : List (Option ℕ)) : Type 0 where
  pub marked : (v : ℕ) → front v ≡ true → slice_index_or after v None ≡ Some depth
  pub kept : (v : ℕ) → front v ≡ false → slice_index_or after v None ≡ slice_index_or before v None

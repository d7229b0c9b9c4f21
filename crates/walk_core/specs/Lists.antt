-- The neighbours of the nodes of a graph, in one list.
use Rattle.std.specs.Prelude.{◌≡◌, ℕ, ◌+◌, ◌-◌, ◌*◌, ◌^◌, ◌<◌, ◌≤◌, List, All, length, map, filter, slice_index, slice_range}
use Rattle.std.specs.List.{range_with_len}
use Rattle.walk_spec.specs.declared.TheConstants.{MAX_WALK_STEPS}
use Rattle.walk_spec.specs.declared.WalkSpec.{WalkSpec}
use Rattle.walk_spec.specs.Walks.{visits_from}
use Rattle.vga_grid.specs.Rows.{bit_of}
use Rattle.vga_grid.specs.Sets.{is_set}

-- the neighbours of node i stand from place `firsts i` up to place `firsts (i + 1)`
pub record Lists : Type 0 where
  pub count : ℕ
  pub firsts : List ℕ
  pub near : List ℕ

-- the neighbours of a node
unfoldable pub listed : Lists → ℕ → List ℕ
listed lists node =
    slice_range lists.near (slice_index lists.firsts node) (slice_index lists.firsts (node + 1))

-- each node has its place, one after another, and each neighbour is a node
pub record AreLists (lists : Lists) : Type 0 where
  pub sized : length lists.firsts ≡ lists.count + 1
  pub order : (i : ℕ) → i < lists.count → slice_index lists.firsts i ≤ slice_index lists.firsts (i + 1)
  pub within : (i : ℕ) → i ≤ lists.count → slice_index lists.firsts i ≤ length lists.near
  pub short : length lists.near < 2 ^ 32
  pub nodes : All (λ node. node < lists.count) lists.near

-- walkers can begin at these starting points, and their steps keep the limit
pub record MayWalk (lists : Lists) (starts : List ℕ) (spec : WalkSpec) : Type 0 where
  pub some : 0 < length starts
  pub nodes : All (λ start. start < lists.count) starts
  pub steps : spec.steps ≤ MAX_WALK_STEPS

-- the visits of each node by so many walkers, from a first one on
abbrev pub part_visits : Lists → List ℕ → WalkSpec → ℕ → ℕ → List ℕ
part_visits lists starts spec first walkers =
    map (visits_from (listed lists) starts spec first walkers) (range_with_len 0 lists.count)

-- ---- lists from the rows of a graph
-- the nodes of the bits that are set in a word, whose lowest bit is for node `first`
unfoldable pub nodes_of_word : ℕ → ℕ → List ℕ
nodes_of_word first word = filter (λ node. is_set word (node - first)) (range_with_len first 64)

-- the nodes of the bits that are set in a row
abbrev pub nodes_of_row : List ℕ → List ℕ
nodes_of_row row = filter (bit_of row) (range_with_len 0 (64 * length row))

-- Walkers over a graph.
use Rattle.std.specs.Prelude.{ℕ, zero, suc, ◌+◌, ◌%◌, ◌==◌, List, [], ◌∷◌, length, slice_index, map, filter, count_by}
use Rattle.std.specs.List.{range_with_len, sum_by}
use Rattle.rand_pcg.specs.Lcg.{Lcg, started, increment_of}
use Rattle.rand_pcg.specs.Pcg.{multiplier_64, pcg32}
use Rattle.graph_spec.specs.Graphs.{Graph, nodes}
use Rattle.walk_spec.specs.declared.WalkSpec.{WalkSpec}

-- ---- draws

-- the generator of a walker: that of the seed and of a stream of its own, the walker's number
unfoldable pub generator_of : ℕ → ℕ → Lcg
generator_of seed walker = started 64 multiplier_64 seed (increment_of 64 walker)

-- a draw: the generator's next word of 32 bits, and the generator after it
unfoldable pub draw : Lcg → ℕ × Lcg
draw generator = pcg32 generator

-- ---- one walker

-- where a walker stands, and the generator of its draws to come
pub record Walker : Type 0 where
  pub at : ℕ
  pub generator : Lcg

-- by one draw to the element of the list whose place is the draw modulo the length
unfoldable pub drawn_from : List ℕ → Lcg → Walker
drawn_from list generator =
    record { at = slice_index list ((draw generator).0 % length list); generator = (draw generator).1 }

-- to one of these neighbours; where there is none, the walker stays and draws nothing
abbrev pub goes_among : List ℕ → Walker → Walker
goes_among [] walker = walker
goes_among (first ∷ others) walker = drawn_from (first ∷ others) walker.generator

-- one step, where these are the neighbours of each node
unfoldable pub stepped : (ℕ → List ℕ) → Walker → Walker
stepped neighbours walker = goes_among (neighbours walker.at) walker

-- the walker of a number after so many steps: it begins at one of the starting points
unfoldable pub walker_after : (ℕ → List ℕ) → List ℕ → ℕ → ℕ → ℕ → Walker
walker_after neighbours starts seed number zero = drawn_from starts (generator_of seed number)
walker_after neighbours starts seed number (suc steps) =
    stepped neighbours (walker_after neighbours starts seed number steps)

-- ---- visits

-- how often a walker stands at a node: after how many of the numbers of steps from 0 to the last
unfoldable pub visits_by : (ℕ → List ℕ) → List ℕ → WalkSpec → ℕ → ℕ → ℕ
visits_by neighbours starts spec node number =
    count_by (λ steps. (walker_after neighbours starts spec.seed number steps).at == node)
    (range_with_len 0 (spec.steps + 1))

-- how often so many walkers, from a first one on, stand at a node
unfoldable pub visits_from : (ℕ → List ℕ) → List ℕ → WalkSpec → ℕ → ℕ → ℕ → ℕ
visits_from neighbours starts spec first walkers node =
    sum_by (visits_by neighbours starts spec node) (range_with_len first walkers)

-- the neighbours of a node, in order of their numbers
abbrev pub neighbours_of : Graph → ℕ → List ℕ
neighbours_of graph node = filter (graph.joins node) (nodes graph)

-- the visits of each node by all walkers
unfoldable pub visits_of : Graph → List ℕ → WalkSpec → List ℕ
visits_of graph starts spec =
    map (visits_from (neighbours_of graph) starts spec 0 spec.walkers) (nodes graph)

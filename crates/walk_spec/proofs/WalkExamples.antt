-- Worked examples: walkers over small graphs. The values are those of an independent program.
use Rattle.std.proofs.Common.{◌≡◌, refl, ℕ, [], ◌∷◌, map}
use Rattle.std.specs.Prelude.{◌+◌, Bool, false, ◌||◌, ◌&&◌, ◌==◌, List}
use Rattle.std.specs.List.{range_with_len}
use Rattle.graph_spec.specs.Graphs.{Graph, graph_where}
use Rattle.walk_spec.specs.declared.WalkSpec.{WalkSpec}
use Rattle.walk_spec.specs.Walks.{generator_of, draw, drawn_from, stepped, walker_after, visits_by, visits_from, neighbours_of, visits_of}

-- 0 with 1, with 2; 1 with 2, with 3; 4 with none
abbrev either_way : ℕ → ℕ → ℕ → ℕ → Bool
either_way a b i j = (i == a && j == b) || (i == b && j == a)

abbrev drawing : Graph
drawing = graph_where 5 (λ i j. (either_way 0 1 i j || either_way 0 2 i j) || (either_way 1 2 i j || either_way 1 3 i j))

abbrev all : List ℕ
all = range_with_len 0 5

abbrev what : ℕ → ℕ → ℕ → WalkSpec
what seed walkers steps = record { seed = seed; walkers = walkers; steps = steps }

-- where a walker stands after so many steps, from 0 on
abbrev places : ℕ → ℕ → List ℕ
places number steps =
    map (λ k. (walker_after (neighbours_of drawing) all 42 number k).at) (range_with_len 0 (steps + 1))

first_walker : places 0 4 ≡ 0 ∷ 1 ∷ 0 ∷ 2 ∷ 1 ∷ []
unfolding generator_of draw drawn_from stepped walker_after
first_walker = refl

-- the same seed and another stream
second_walker : places 1 4 ≡ 1 ∷ 2 ∷ 0 ∷ 2 ∷ 0 ∷ []
unfolding generator_of draw drawn_from stepped walker_after
second_walker = refl

three_walkers : visits_of drawing all (what 42 3 4) ≡ 5 ∷ 5 ∷ 4 ∷ 1 ∷ 0 ∷ []
unfolding generator_of draw drawn_from stepped walker_after visits_by visits_from visits_of
three_walkers = refl

-- two of these walkers begin at the node without neighbours, and stay there
some_stay : visits_of drawing all (what 1 4 3) ≡ 2 ∷ 3 ∷ 3 ∷ 0 ∷ 8 ∷ []
unfolding generator_of draw drawn_from stepped walker_after visits_by visits_from visits_of
some_stay = refl

-- two nodes that see each other: each walker goes to and fro
to_and_fro : visits_of (graph_where 2 (either_way 0 1)) (0 ∷ 1 ∷ []) (what 99 4 3) ≡ 8 ∷ 8 ∷ []
unfolding generator_of draw drawn_from stepped walker_after visits_by visits_from visits_of
to_and_fro = refl

-- a node alone
alone : visits_of (graph_where 1 (λ i j. false)) (0 ∷ []) (what 0 3 4) ≡ 15 ∷ []
unfolding generator_of draw drawn_from stepped walker_after visits_by visits_from visits_of
alone = refl

-- What a node reaches, as a value.
use Rattle.std.specs.Prelude.{ℕ, List, map, count_by, is_some}
use Rattle.std.specs.List.{range_with_len}
use Rattle.graph_spec.specs.Graphs.{Graph, Measures, nodes, depths_of, total_depth, measures_of}
use Rattle.step_depth.specs.declared.reach.Reach.{Reach}

-- how many neighbours and nodes a node reaches, and the sum of their depths
unfoldable pub reach_of : Graph → ℕ → Reach
reach_of graph i =
    record {
      connectivity = count_by (graph.joins i) (nodes graph);
      reached = count_by is_some (depths_of graph i);
      total = total_depth (depths_of graph i);
    }

-- what so many nodes from the first on reach
abbrev pub reaches_of : Graph → ℕ → ℕ → List Reach
reaches_of graph first count = map (reach_of graph) (range_with_len first count)

-- the measures of so many nodes from the first on
abbrev pub measures_from : Graph → ℕ → ℕ → List Measures
measures_from graph first count = map (measures_of graph) (range_with_len first count)

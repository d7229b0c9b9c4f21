-- Graphs, walks in them, depths and the measures of a node.
use Rattle.std.specs.Prelude.{◌≡◌, ℕ, zero, suc, ◌+◌, ◌-◌, ◌*◌, ◌<◌, ◌≤◌, nat_lt, nat_le, pos, ◌-ℤ◌, ◌*ℤ◌, Bool, true, false, ◌&&◌, not, ◌==◌, List, map, filter, count_by, Option, Some, None, is_some, unwrap_or, if◌then◌else◌}
use Rattle.std.specs.List.{list_any, range_with_len, sum_by}
use Rattle.plane_spec.specs.Fractions.{Fraction, reduced}
use Rattle.plane_spec.specs.Lists.{pairs}

-- a graph over the nodes below `count`, and which two of them an edge joins
pub record Graph : Type 0 where
  pub count : ℕ
  pub joins : ℕ → ℕ → Bool

-- an edge has no direction, joins no node to itself, and joins nodes of the graph alone
pub record IsSimpleGraph (graph : Graph) : Type 0 where
  pub symmetric : (i j : ℕ) → graph.joins i j ≡ graph.joins j i
  pub loopless : (i : ℕ) → graph.joins i i ≡ false
  pub on_nodes : (i j : ℕ) → graph.joins i j ≡ true → (i < graph.count) × (j < graph.count)

-- the same graph: as many nodes, of which the same are joined; what is said of other numbers doesn't matter
pub record IsSameGraph (g h : Graph) : Type 0 where
  pub count : g.count ≡ h.count
  pub joins : (i j : ℕ) → i < g.count → j < g.count → g.joins i j ≡ h.joins i j

-- the graph over so many nodes that joins two different ones where the test says so
abbrev pub graph_where : ℕ → (ℕ → ℕ → Bool) → Graph
graph_where count test =
    record { count = count; joins = λ i j. ((nat_lt i count && nat_lt j count) && not (i == j)) && test i j }

-- the numbers below the count
abbrev pub nodes : Graph → List ℕ
nodes graph = range_with_len 0 graph.count

-- the graph joins the two
abbrev pub is_edge : Graph → ℕ × ℕ → Bool
is_edge graph e = graph.joins e.0 e.1

-- the edges, each once, its smaller node first, in order of that and then of the other
unfoldable pub edges_of : Graph → List (ℕ × ℕ)
edges_of graph = filter (is_edge graph) (pairs (nodes graph))

-- ---- walks

-- a walk of so many edges from i to j over nodes of the graph; a number that is no node has none, not even to itself
abbrev pub Walk : Graph → ℕ → ℕ → ℕ → Type 0
Walk graph i j zero = (i ≡ j) × (j < graph.count)
Walk graph i j (suc steps) = (k : ℕ) × Walk graph i k steps × (graph.joins k j ≡ true) × (j < graph.count)

-- the depth of j from i: the least number of edges of a walk, or none where there is no walk
abbrev pub IsDepth : Graph → ℕ → ℕ → Option ℕ → Type 0
IsDepth graph i j None = (steps : ℕ) → Walk graph i j steps → ⊥
IsDepth graph i j (Some depth) = Walk graph i j depth × ((steps : ℕ) → Walk graph i j steps → depth ≤ steps)

-- there is a walk of so many edges
abbrev pub has_walk : Graph → ℕ → ℕ → ℕ → Bool
has_walk graph i j zero = (i == j) && nat_lt j graph.count
has_walk graph i j (suc steps) =
    list_any (λ k. has_walk graph i k steps && graph.joins k j) (nodes graph) && nat_lt j graph.count

-- the first of `count` numbers from k on that passes the test
abbrev pub first_from : (ℕ → Bool) → ℕ → ℕ → Option ℕ
first_from passes k zero = None
first_from passes k (suc count) = if passes k then Some k else first_from passes (k + 1) count

-- the depth as a value: a shortest walk has fewer edges than the graph has nodes
unfoldable pub depth_of : Graph → ℕ → ℕ → Option ℕ
depth_of graph i j = first_from (has_walk graph i j) 0 graph.count

-- the depth of each node from i
abbrev pub depths_of : Graph → ℕ → List (Option ℕ)
depths_of graph i = map (depth_of graph i) (nodes graph)

-- ---- measures

-- connectivity, nodes reached with the node itself, the sum of their depths, mean depth and relative asymmetry
pub record Measures : Type 0 where
  pub connectivity : ℕ
  pub reached : ℕ
  pub total : ℕ
  pub mean : Option Fraction
  pub asymmetry : Option Fraction

-- what stands for measures where there are none
abbrev pub no_measures : Measures
no_measures = record { connectivity = 0; reached = 0; total = 0; mean = None; asymmetry = None }

-- the sum of the depths that there are
abbrev pub total_depth : List (Option ℕ) → ℕ
total_depth depths = sum_by (λ d. unwrap_or d 0) depths

-- mean depth over the other nodes reached: total / (reached - 1), or none where no other is reached
abbrev pub mean_depth : ℕ → ℕ → Option Fraction
mean_depth reached total =
    if nat_le 2 reached then Some (reduced (record { num = pos total; den = pos (reached - 1) })) else None

-- 2 (mean - 1) / (reached - 2), where the mean is total / (reached - 1)
abbrev pub asymmetry_by : ℕ → ℕ → Fraction
asymmetry_by reached total =
    record { num = pos 2 *ℤ (pos total -ℤ pos (reached - 1)); den = pos ((reached - 1) * (reached - 2)) }

-- relative asymmetry 2 (mean - 1) / (reached - 2), or none where fewer than three nodes are reached
abbrev pub relative_asymmetry : ℕ → ℕ → Option Fraction
relative_asymmetry reached total = if nat_le 3 reached then Some (reduced (asymmetry_by reached total)) else None

-- the measures of a node by its connectivity and the depths of all nodes from it
abbrev pub measures_by : ℕ → List (Option ℕ) → Measures
measures_by connectivity depths =
    record {
      connectivity = connectivity;
      reached = count_by is_some depths;
      total = total_depth depths;
      mean = mean_depth (count_by is_some depths) (total_depth depths);
      asymmetry = relative_asymmetry (count_by is_some depths) (total_depth depths);
    }

-- the measures of a node
unfoldable pub measures_of : Graph → ℕ → Measures
measures_of graph i = measures_by (count_by (graph.joins i) (nodes graph)) (depths_of graph i)

-- the measures of each node
abbrev pub measures_of_nodes : Graph → List Measures
measures_of_nodes graph = map (measures_of graph) (nodes graph)

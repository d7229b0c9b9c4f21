-- Graphs that are the same below their count have the same depths, measures and edges.
use Rattle.std.specs.Prelude.{◌≡◌, ℕ, zero, suc, ◌<◌, ◌≤◌, false, map, filter, Option, Some, None}
use Rattle.std.specs.List.{count_by, range_with_len}
use Rattle.std.proofs.Common.{sym, ap, ◌∙◌, inl, inr, arith}
use Rattle.std.proofs.lemmas.Bool.{cases_Bool, cases_lt}
use Rattle.plane_spec.specs.Lists.{pairs}
use Rattle.graph_spec.specs.Graphs.{Graph, IsSimpleGraph, IsSameGraph, nodes, is_edge, edges_of, Walk, IsDepth, depth_of, depths_of, measures_by, measures_of, measures_of_nodes}
use Rattle.graph_laws.proofs.Agreeing.{map_agree, map_agree_on, filter_agree_on, count_agree_on, all_in_range, all_in_pairs}
use Rattle.graph_laws.proofs.Walks.{end_is_node}
use Rattle.graph_laws.proofs.Depths.{least_depth, same_depth}

-- ---- walks and depths

turned : (g h : Graph) → IsSameGraph g h → IsSameGraph h g
turned g h same = record {
  count = sym same.count;
  joins = λ i j below_i below_j.
      sym (same.joins i j (omega (arith, same.count, below_i)) (omega (arith, same.count, below_j)));
}

walk_carried : (g h : Graph) → IsSameGraph g h → (i j steps : ℕ) → Walk g i j steps → Walk h i j steps
walk_carried g h same i j zero walk = (walk.0, omega (arith, same.count, walk.1))
walk_carried g h same i j (suc steps) walk =
    let before = end_is_node g i walk.0 steps walk.1 in (
      walk.0,
      walk_carried g h same i walk.0 steps walk.1,
      sym (same.joins walk.0 j before walk.3) ∙ walk.2,
      omega (arith, same.count, walk.3),
    )

depth_carried : (g h : Graph) → IsSameGraph g h → (i j : ℕ) (d : Option ℕ) → IsDepth g i j d → IsDepth h i j d
depth_carried g h same i j None none = λ steps walk. none steps (walk_carried h g (turned g h same) i j steps walk)
depth_carried g h same i j (Some depth) least = (
  walk_carried g h same i j depth least.0,
  λ steps walk. least.1 steps (walk_carried h g (turned g h same) i j steps walk),
)

pub same_graph_depth : (g h : Graph) → IsSameGraph g h → (i j : ℕ) → depth_of g i j ≡ depth_of h i j
same_graph_depth g h same i j =
    same_depth h i j (depth_of g i j) (depth_of h i j)
    (depth_carried g h same i j (depth_of g i j) (least_depth g i j)) (least_depth h i j)

pub same_graph_depths : (g h : Graph) → IsSameGraph g h → (i : ℕ) → depths_of g i ≡ depths_of h i
same_graph_depths g h same i =
    map_agree (depth_of g i) (depth_of h i) (same_graph_depth g h same i) (nodes g)
    ∙ ap (λ (count : ℕ). map (depth_of h i) (range_with_len 0 count)) same.count

-- ---- measures

same_connectivity : (g h : Graph) → IsSameGraph g h → (i : ℕ) → i < g.count
    → count_by (g.joins i) (nodes g) ≡ count_by (h.joins i) (nodes h)
same_connectivity g h same i node =
    count_agree_on (g.joins i) (h.joins i) (nodes g)
    (all_in_range (λ j. g.joins i j ≡ h.joins i j) 0 g.count
    (λ j above below. same.joins i j node (omega (arith, below))))
    ∙ ap (λ (count : ℕ). count_by (h.joins i) (range_with_len 0 count)) same.count

pub same_graph_measures : (g h : Graph) → IsSameGraph g h → (i : ℕ) → i < g.count → measures_of g i ≡ measures_of h i
unfolding measures_of
same_graph_measures g h same i node =
    ap (λ connectivity. measures_by connectivity (depths_of g i)) (same_connectivity g h same i node)
    ∙ ap (measures_by (count_by (h.joins i) (nodes h))) (same_graph_depths g h same i)

pub same_graph_measures_of_nodes : (g h : Graph) → IsSameGraph g h → measures_of_nodes g ≡ measures_of_nodes h
same_graph_measures_of_nodes g h same =
    map_agree_on (measures_of g) (measures_of h) (nodes g)
    (all_in_range (λ i. measures_of g i ≡ measures_of h i) 0 g.count
    (λ i above below. same_graph_measures g h same i (omega (arith, below))))
    ∙ ap (λ (count : ℕ). map (measures_of h) (range_with_len 0 count)) same.count

-- ---- edges

pub same_graph_edges : (g h : Graph) → IsSameGraph g h → edges_of g ≡ edges_of h
unfolding edges_of
same_graph_edges g h same =
    let all_below = all_in_range (λ i. i < g.count) 0 g.count (λ i above within. omega (arith, within)) in
    let below = all_in_pairs (λ i. i < g.count) (nodes g) all_below in
    filter_agree_on (is_edge g) (is_edge h) (pairs (nodes g))
    (λ k d inside. same.joins _ _ (below k d inside).0 (below k d inside).1)
    ∙ ap (λ (count : ℕ). filter (is_edge h) (pairs (range_with_len 0 count))) same.count

-- ---- equal graphs

pub equal_graphs : (g h : Graph) → g.count ≡ h.count → ((i j : ℕ) → g.joins i j ≡ h.joins i j) → g ≡ h
equal_graphs g h counts joins = λ k. record { count = counts k; joins = λ i j. joins i j k }

-- a simple graph joins no number that is no node
pub joins_no_other : (g : Graph) → IsSimpleGraph g → (i j : ℕ) → g.count ≤ j → g.joins i j ≡ false
joins_no_other g simple i j past = elim (cases_Bool (g.joins i j)) [
  | inl joined ↦ absurd (omega (arith, past, (simple.on_nodes i j joined).1))
  | inr apart ↦ apart
]

same_joins : (g h : Graph) → IsSimpleGraph g → IsSimpleGraph h → IsSameGraph g h
    → (i j : ℕ) → g.joins i j ≡ h.joins i j
same_joins g h simple simple_too same i j = elim (cases_lt i g.count) [
  | inl below_i ↦ elim (cases_lt j g.count) [
    | inl below_j ↦ same.joins i j below_i below_j
    | inr past_j ↦
        joins_no_other g simple i j past_j
        ∙ sym (joins_no_other h simple_too i j (omega (arith, same.count, past_j)))
  ]
  | inr past_i ↦
      simple.symmetric i j ∙ joins_no_other g simple j i past_i
      ∙ sym (simple_too.symmetric i j ∙ joins_no_other h simple_too j i (omega (arith, same.count, past_i)))
]

pub same_simple_graphs : (g h : Graph) → IsSimpleGraph g → IsSimpleGraph h → IsSameGraph g h → g ≡ h
same_simple_graphs g h simple simple_too same = equal_graphs g h same.count (same_joins g h simple simple_too same)

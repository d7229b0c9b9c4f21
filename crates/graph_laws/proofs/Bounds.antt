-- Bounds of depths and measures in a graph of so many nodes, and where they are listed.
use Rattle.std.specs.Prelude.{◌≡◌, ℕ, zero, suc, ◌+◌, ◌-◌, ◌*◌, ◌<◌, ◌≤◌, Option, Some, None, unwrap_or, length, get_or, is_some}
use Rattle.std.specs.List.{range_with_len, sum_by}
use Rattle.std.proofs.Common.{refl, ap, ◌∙◌, inl, inr, arith, subst}
use Rattle.std.proofs.lemmas.Bool.{cases_eq, cases_lt}
use Rattle.std.proofs.lemmas.List.Folds.{fold-map}
use Rattle.std.proofs.lemmas.List.Sums.{count_by-le-length, sum_by-cons}
use Rattle.std.proofs.lemmas.List.FromFn.{get_or-map-range_with_len, length-map-range_with_len, length-range_with_len}
use Rattle.graph_spec.specs.Graphs.{Graph, IsDepth, nodes, depth_of, depths_of, measures_of, measures_of_nodes, no_measures}
use Rattle.graph_laws.proofs.Walks.{begin_is_node, shorter_walk}
use Rattle.graph_laws.proofs.Depths.{least_depth, one_depth_each, same_depth}

-- ---- depths

depth_is_small : (graph : Graph) (i j depth : ℕ) → IsDepth graph i j (Some depth) → depth < graph.count
depth_is_small graph i j depth least =
    let short = shorter_walk graph i j depth least.0 in
    omega (arith, least.1 short.0 short.2, short.1)

pub depth_below_count : (graph : Graph) (i j depth : ℕ) → depth_of graph i j ≡ Some depth → depth < graph.count
depth_below_count graph i j depth is =
    depth_is_small graph i j depth (subst (IsDepth graph i j) is (least_depth graph i j))

-- a node has depth 0 from itself
pub own_depth : (graph : Graph) (i : ℕ) → i < graph.count → depth_of graph i i ≡ Some 0
own_depth graph i node =
    same_depth graph i i (depth_of graph i i) (Some 0) (least_depth graph i i)
    ((refl, node), λ steps walk. omega arith)

-- ---- totals

-- what a depth adds to the total
abbrev added : Option ℕ → ℕ
added d = unwrap_or d 0

added_at_most : (graph : Graph) (i j : ℕ) → added (depth_of graph i j) ≤ graph.count - 1
added_at_most graph i j = by_depth (depth_of graph i j) (least_depth graph i j)
  where
    by_depth : (d : Option ℕ) → IsDepth graph i j d → added d ≤ graph.count - 1
    by_depth None least = omega arith
    by_depth (Some depth) least = omega (arith, depth_is_small graph i j depth least)

-- numbers of which none is above `most`
sum_at_most : (f : ℕ → ℕ) (most from count : ℕ) → ((k : ℕ) → f k ≤ most)
    → sum_by f (range_with_len from count) ≤ count * most
sum_at_most f most from zero h = omega arith
sum_at_most f most from (suc count) h =
    let rest = sum_at_most f most (from + 1) count h in
    omega (arith, sum_by-cons f from (range_with_len (from + 1) count), h from, rest)

-- and one of which is 0
sum_but_one : (f : ℕ → ℕ) (most i from count : ℕ) → ((k : ℕ) → f k ≤ most) → from ≤ i → i < from + count → f i ≡ 0
    → sum_by f (range_with_len from count) ≤ (count - 1) * most
sum_but_one f most i from zero h above below none = absurd (omega arith)
sum_but_one f most i from (suc count) h above below none = elim (cases_eq from i) [
  | inl here ↦
      let first : f from ≡ 0 = ap f here ∙ none in
      let size : (suc count - 1) * most ≡ count * most = ap (λ (n : ℕ). n * most) (omega arith) in
      let rest = sum_at_most f most (from + 1) count h in
      omega (arith, sum_by-cons f from (range_with_len (from + 1) count), first, rest, size)
  | inr later ↦
      let rest = sum_but_one f most i (from + 1) count h (omega arith) (omega arith) none in
      let size : (suc count - 1) * most ≡ suc (count - 1) * most = ap (λ (n : ℕ). n * most) (omega arith) in
      omega (arith, sum_by-cons f from (range_with_len (from + 1) count), h from, rest, size)
]

-- from a number that is no node nothing has a depth
none_added : (graph : Graph) (i j : ℕ) → graph.count ≤ i → added (depth_of graph i j) ≤ 0
none_added graph i j past = by_depth (depth_of graph i j) (least_depth graph i j)
  where
    by_depth : (d : Option ℕ) → IsDepth graph i j d → added d ≤ 0
    by_depth None least = omega arith
    by_depth (Some depth) least = absurd (omega (arith, begin_is_node graph i j depth least.0, past))

total_is : (graph : Graph) (i : ℕ)
    → (measures_of graph i).total ≡ sum_by (λ j. added (depth_of graph i j)) (nodes graph)
unfolding measures_of
total_is graph i = fold-map (λ (n : ℕ) d. n + added d) (depth_of graph i) 0 (nodes graph)

-- each other node adds one less than there are nodes at most
pub total_at_most : (graph : Graph) (i : ℕ) → (measures_of graph i).total ≤ (graph.count - 1) * (graph.count - 1)
total_at_most graph i = elim (cases_lt i graph.count) [
  | inl node ↦
      let own : added (depth_of graph i i) ≡ 0 = ap added (own_depth graph i node) in
      let sum = sum_but_one (λ j. added (depth_of graph i j)) (graph.count - 1) i 0 graph.count (added_at_most graph i)
      (omega arith) (omega (arith, node)) own in
      omega (arith, total_is graph i, sum)
  | inr past ↦
      let sum = sum_at_most (λ j. added (depth_of graph i j)) 0 0 graph.count (λ j. none_added graph i j past) in
      omega (arith, total_is graph i, sum)
]

-- ---- counts

pub connectivity_at_most : (graph : Graph) (i : ℕ) → (measures_of graph i).connectivity ≤ graph.count
unfolding measures_of
connectivity_at_most graph i =
    omega (arith, count_by-le-length (graph.joins i) (nodes graph), length-range_with_len 0 graph.count)

pub reached_at_most : (graph : Graph) (i : ℕ) → (measures_of graph i).reached ≤ graph.count
unfolding measures_of
reached_at_most graph i = omega (arith, count_by-le-length is_some (depths_of graph i), one_depth_each graph i)

-- ---- lists

pub one_measure_each : (graph : Graph) → length (measures_of_nodes graph) ≡ graph.count
one_measure_each graph = length-map-range_with_len (measures_of graph) 0 graph.count

-- the measures of a node stand at its number
pub measures_are_listed : (graph : Graph) (i : ℕ) → i < graph.count
    → get_or (measures_of_nodes graph) i no_measures ≡ measures_of graph i
measures_are_listed graph i node =
    get_or-map-range_with_len (measures_of graph) 0 graph.count i i no_measures node (omega arith)

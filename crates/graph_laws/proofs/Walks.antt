-- Walks in a graph: the test for a walk finds each, and a shortest has fewer edges than the graph has nodes.
use Rattle.std.specs.Prelude.{◌≡◌, ℕ, zero, suc, ◌+◌, ◌<◌, ◌≤◌, ◌==◌, nat_lt, Bool, true, ◌&&◌, List, [], ◌∷◌, length}
use Rattle.std.specs.List.{list_any, range_with_len}
use Rattle.std.proofs.Common.{sym, ap, ◌∙◌, inl, inr, arith}
use Rattle.std.proofs.lemmas.Bool.{cases_eq, and_from, and_parts, or_cases, or_left, or_right, eqb-true, eq-eqb, lt-ltb, ltb-true}
use Rattle.graph_spec.specs.Graphs.{Graph, Walk, has_walk, nodes}
use Rattle.graph_laws.proofs.Paths.{IsPath, ShortPath, stays, extend, few_steps}

-- ---- the test for a walk

any_in_range : (p : ℕ → Bool) (from count k : ℕ) → from ≤ k → k < from + count → p k ≡ true → list_any p (range_with_len from count) ≡ true
any_in_range p from zero k above below passes = absurd (omega arith)
any_in_range p from (suc count) k above below passes = elim (cases_eq k from) [
  | inl first ↦ or_left (p from) (list_any p (range_with_len (from + 1) count)) (ap p (sym first) ∙ passes)
  | inr later ↦ or_right (p from) (list_any p (range_with_len (from + 1) count)) (any_in_range p (from + 1) count k (omega arith) (omega arith) passes)
]

one_in_range : (p : ℕ → Bool) (from count : ℕ) → list_any p (range_with_len from count) ≡ true → (k : ℕ) × (k < from + count) × (p k ≡ true)
one_in_range p from zero met = grind arith
one_in_range p from (suc count) met = elim (or_cases (p from) (list_any p (range_with_len (from + 1) count)) met) [
  | inl first ↦ (from, omega arith, first)
  | inr later ↦ let found = one_in_range p (from + 1) count later in (found.0, omega (arith, found.1), found.2)
]

-- a walk ends at a node
pub end_is_node : (graph : Graph) (i j steps : ℕ) → Walk graph i j steps → j < graph.count
end_is_node graph i j zero walk = walk.1
end_is_node graph i j (suc steps) walk = walk.3

-- and begins at one
pub begin_is_node : (graph : Graph) (i j steps : ℕ) → Walk graph i j steps → i < graph.count
begin_is_node graph i j zero walk = omega (arith, walk.0, walk.1)
begin_is_node graph i j (suc steps) walk = begin_is_node graph i walk.0 steps walk.1

-- some node is reached by one edge less and is joined to j
abbrev has_last_edge : Graph → ℕ → ℕ → ℕ → Bool
has_last_edge graph i j steps = list_any (λ k. has_walk graph i k steps && graph.joins k j) (nodes graph)

pub walk_is_found : (graph : Graph) (i j steps : ℕ) → Walk graph i j steps → has_walk graph i j steps ≡ true
walk_is_found graph i j zero walk =
    and_from (i == j) (nat_lt j graph.count) (eq-eqb i j walk.0) (lt-ltb j graph.count walk.1)
walk_is_found graph i j (suc steps) walk =
    let node = end_is_node graph i walk.0 steps walk.1 in
    let found = walk_is_found graph i walk.0 steps walk.1 in
    let last = and_from (has_walk graph i walk.0 steps) (graph.joins walk.0 j) found walk.2 in
    and_from (has_last_edge graph i j steps) (nat_lt j graph.count)
    (any_in_range (λ k. has_walk graph i k steps && graph.joins k j) 0 graph.count walk.0
    (omega arith) (omega (arith, node)) last)
    (lt-ltb j graph.count walk.3)

pub found_is_walk : (graph : Graph) (i j steps : ℕ) → has_walk graph i j steps ≡ true → Walk graph i j steps
found_is_walk graph i j zero found =
    let parts = and_parts (i == j) (nat_lt j graph.count) found in
    (eqb-true i j parts.0, ltb-true j graph.count parts.1)
found_is_walk graph i j (suc steps) found =
    let parts = and_parts (has_last_edge graph i j steps) (nat_lt j graph.count) found in
    let last = one_in_range (λ k. has_walk graph i k steps && graph.joins k j) 0 graph.count parts.0 in
    let joined = and_parts (has_walk graph i last.0 steps) (graph.joins last.0 j) last.2 in
    (last.0, found_is_walk graph i last.0 steps joined.0, joined.1, ltb-true j graph.count parts.1)

-- ---- fewer edges than nodes

module _ (graph : Graph) (i : ℕ) where
  abbrev IsNode : ℕ → Type 0
  IsNode k = k < graph.count

  abbrev IsBegin : ℕ → Type 0
  IsBegin k = i ≡ k

  abbrev AreJoined : ℕ → ℕ → Type 0
  AreJoined k j = graph.joins k j ≡ true

  abbrev no_cost : ℕ → ℕ → ℕ
  no_cost k j = 0

  abbrev itself : ℕ → ℕ
  itself k = k

  path_of_walk : (j steps : ℕ) → Walk graph i j steps → ShortPath IsNode IsBegin AreJoined no_cost itself j 0
  path_of_walk j zero walk = stays IsNode IsBegin AreJoined no_cost itself j 0 walk.1 walk.0
  path_of_walk j (suc steps) walk =
      let before = path_of_walk walk.0 steps walk.1 in
      extend IsNode IsBegin AreJoined no_cost itself (λ u t _ _ e. e) walk.0 j 0 before walk.3 walk.2

  walk_of_path : (j : ℕ) (before : List ℕ) → IsPath IsNode IsBegin AreJoined no_cost itself j before → Walk graph i j (length before)
  walk_of_path j [] path = (path.1, path.0)
  walk_of_path j (k ∷ before) path = (k, walk_of_path k before path.1, path.2, path.0)

  -- where there is a walk, there is one with fewer edges than the graph has nodes
  pub shorter_walk : (j steps : ℕ) → Walk graph i j steps → (fewer : ℕ) × (fewer < graph.count) × Walk graph i j fewer
  shorter_walk j steps walk =
      let short = path_of_walk j steps walk in
      let few = few_steps IsNode IsBegin AreJoined no_cost itself graph.count (λ _ h. h) j 0 short in
      (length short.before, few, walk_of_path j short.before short.path)

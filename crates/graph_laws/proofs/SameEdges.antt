-- Simple graphs with as many nodes and the same edges are equal: what the list of edges has is what the graph joins.
use Rattle.std.specs.Prelude.{◌≡◌, ℕ, zero, suc, ◌+◌, ◌<◌, ◌≤◌, Bool, true, false, cond, List, [], ◌∷◌, map, filter}
use Rattle.std.specs.List.{Contains, range_with_len}
use Rattle.std.proofs.Common.{refl, sym, ap, ◌∙◌, inl, inr, arith, subst}
use Rattle.std.proofs.lemmas.Bool.{cases_eq, cases_lt}
use Rattle.std.proofs.lemmas.List.Elements.{Contains-append_left, Contains-append_right}
use Rattle.plane_spec.specs.Lists.{pairs, with_each}
use Rattle.graph_spec.specs.Graphs.{Graph, IsSimpleGraph, nodes, is_edge, edges_of}
use Rattle.int_laws.proofs.Tests.{agree}
use Rattle.graph_laws.proofs.Members.{contains_first, contains_later, contains_none, first_or_later, contains_mapped}
use Rattle.graph_laws.proofs.SameGraphs.{same_simple_graphs}

-- ---- what a filter keeps

kept : {X : Type 0} (p : X → Bool) (xs : List X) (x : X) → Contains xs x → p x ≡ true → Contains (filter p xs) x
kept p [] x is passes = absurd (contains_none x is)
kept p (y ∷ xs) x is passes = elim (first_or_later y xs x is) [
  | inl first ↦
      let here : p y ≡ true = ap p first ∙ passes in
      rw here (subst (λ z. Contains (y ∷ filter p xs) z) first (contains_first y (filter p xs)))
  | inr later ↦ by_test (p y) (kept p xs x later passes)
]
  where
    by_test : (t : Bool) → Contains (filter p xs) x → Contains (cond t (y ∷ filter p xs) (filter p xs)) x
    by_test true rest = contains_later y (filter p xs) x rest
    by_test false rest = rest

passes_if_kept : {X : Type 0} (p : X → Bool) (xs : List X) (x : X) → Contains (filter p xs) x → p x ≡ true
passes_if_kept p [] x is = absurd (contains_none x is)
passes_if_kept p (y ∷ xs) x is = by_test (p y) refl is (passes_if_kept p xs x)
  where
    by_test : (t : Bool) → p y ≡ t → Contains (cond t (y ∷ filter p xs) (filter p xs)) x
        → (Contains (filter p xs) x → p x ≡ true) → p x ≡ true
    by_test true here is rest = elim (first_or_later y (filter p xs) x is) [
      | inl first ↦ ap p (sym first) ∙ here
      | inr later ↦ rest later
    ]
    by_test false here is rest = rest is

same_tests : {X : Type 0} (p q : X → Bool) (xs : List X) (x : X)
    → filter p xs ≡ filter q xs → Contains xs x → p x ≡ q x
same_tests p q xs x same is =
    agree (p x) (q x)
    (λ passes. passes_if_kept q xs x (subst (λ ys. Contains ys x) same (kept p xs x is passes)))
    (λ passes. passes_if_kept p xs x (subst (λ ys. Contains ys x) (sym same) (kept q xs x is passes)))

-- ---- pairs of numbers

number_there : (from count k : ℕ) → from ≤ k → k < from + count → Contains (range_with_len from count) k
number_there from zero k above below = absurd (omega arith)
number_there from (suc count) k above below = elim (cases_eq from k) [
  | inl here ↦
      subst (λ z. Contains (range_with_len from (suc count)) z) here
      (contains_first from (range_with_len (from + 1) count))
  | inr later ↦
      contains_later from (range_with_len (from + 1) count) k
      (number_there (from + 1) count k (omega arith) (omega arith))
]

pair_there : (from count i j : ℕ) → from ≤ i → i < j → j < from + count
    → Contains (pairs (range_with_len from count)) (i, j)
pair_there from zero i j above rises below = absurd (omega arith)
pair_there from (suc count) i j above rises below = elim (cases_eq from i) [
  | inl here ↦
      let numbers = range_with_len (from + 1) count in
      let number = number_there (from + 1) count j (omega arith) (omega arith) in
      Contains-append_left (map (with_each from) numbers) (pairs numbers) (i, j)
      (subst (λ (z : ℕ). Contains (map (with_each from) numbers) (z, j)) here
      (contains_mapped (with_each from) numbers j number))
  | inr later ↦
      let numbers = range_with_len (from + 1) count in
      Contains-append_right (map (with_each from) numbers) (pairs numbers) (i, j)
      (pair_there (from + 1) count i j (omega arith) rises (omega arith))
]

-- ---- graphs

module _ (g h : Graph) (simple : IsSimpleGraph g) (simple_too : IsSimpleGraph h) (count : g.count ≡ h.count)
    (edges : edges_of g ≡ edges_of h) where
  same_listed : filter (is_edge g) (pairs (nodes g)) ≡ filter (is_edge h) (pairs (nodes g))
  unfolding edges_of
  same_listed = edges ∙ ap (λ (n : ℕ). filter (is_edge h) (pairs (range_with_len 0 n))) (sym count)

  rising_joined : (i j : ℕ) → i < j → j < g.count → g.joins i j ≡ h.joins i j
  rising_joined i j rises below =
      same_tests (is_edge g) (is_edge h) (pairs (nodes g)) (i, j) same_listed
      (pair_there 0 g.count i j (omega arith) rises (omega (arith, below)))

  same_joined : (i j : ℕ) → i < g.count → j < g.count → g.joins i j ≡ h.joins i j
  same_joined i j below_i below_j = elim (cases_eq i j) [
    | inl same ↦ ap (g.joins i) (sym same) ∙ simple.loopless i ∙ sym (simple_too.loopless i) ∙ ap (h.joins i) same
    | inr other ↦ elim (cases_lt i j) [
      | inl rises ↦ rising_joined i j rises below_j
      | inr falls ↦ simple.symmetric i j ∙ rising_joined j i (omega arith) below_i ∙ simple_too.symmetric j i
    ]
  ]

  pub same_edges_equal_graphs : g ≡ h
  same_edges_equal_graphs = same_simple_graphs g h simple simple_too (record { count = count; joins = same_joined })

-- The depth that is computed is the least number of edges of a walk, and there is no other.
use Rattle.std.specs.Prelude.{◌≡◌, ℕ, zero, suc, ◌+◌, ◌<◌, ◌≤◌, Bool, true, false, cond, length, get_or, Option, Some, None}
use Rattle.std.proofs.Common.{refl, sym, ap, ◌∙◌, inl, inr, arith, subst}
use Rattle.std.proofs.lemmas.Bool.{cases_eq, cases_lt, both_ways}
use Rattle.std.proofs.lemmas.List.{get_or_past}
use Rattle.std.proofs.lemmas.List.FromFn.{length-map-range_with_len, get_or-map-range_with_len}
use Rattle.graph_spec.specs.Graphs.{Graph, IsDepth, has_walk, first_from, depth_of, depths_of}
use Rattle.graph_laws.proofs.Walks.{end_is_node, walk_is_found, found_is_walk, shorter_walk}

-- none of so many numbers from k on passes, or it is the first that does
abbrev IsFirst : (ℕ → Bool) → ℕ → ℕ → Option ℕ → Type 0
IsFirst passes k count None = (m : ℕ) → k ≤ m → m < k + count → passes m ≡ false
IsFirst passes k count (Some d) = (passes d ≡ true) × ((m : ℕ) → k ≤ m → m < d → passes m ≡ false)

later_is_first : (passes : ℕ → Bool) (k count : ℕ) (d : Option ℕ) → passes k ≡ false → IsFirst passes (k + 1) count d → IsFirst passes k (suc count) d
later_is_first passes k count None fails first = λ m above below. elim (cases_eq k m) [
  | inl same ↦ ap passes (sym same) ∙ fails
  | inr other ↦ first m (omega arith) (omega arith)
]
later_is_first passes k count (Some d) fails first = (
  first.0,
  λ m above below. elim (cases_eq k m) [
    | inl same ↦ ap passes (sym same) ∙ fails
    | inr other ↦ first.1 m (omega arith) (omega arith)
  ],
)

first_is : (passes : ℕ → Bool) (k count : ℕ) → IsFirst passes k count (first_from passes k count)
first_is passes k zero = λ m above below. absurd (omega arith)
first_is passes k (suc count) = by_test (passes k) refl (first_is passes (k + 1) count)
  where
    by_test : (t : Bool) → passes k ≡ t → IsFirst passes (k + 1) count (first_from passes (k + 1) count)
        → IsFirst passes k (suc count) (cond t (Some k) (first_from passes (k + 1) count))
    by_test true h rest = (h, λ m above below. absurd (omega arith))
    by_test false h rest = later_is_first passes k count (first_from passes (k + 1) count) h rest

first_is_depth : (graph : Graph) (i j : ℕ) (d : Option ℕ) → IsFirst (has_walk graph i j) 0 graph.count d → IsDepth graph i j d
first_is_depth graph i j None first = λ steps walk.
    let short = shorter_walk graph i j steps walk in
    both_ways (has_walk graph i j short.0) (first short.0 (omega arith) (omega (arith, short.1))) (walk_is_found graph i j short.0 short.2)
first_is_depth graph i j (Some d) first = (
  found_is_walk graph i j d first.0,
  λ steps walk. elim (cases_lt steps d) [
    | inl fewer ↦ absurd (both_ways (has_walk graph i j steps) (first.1 steps (omega arith) fewer) (walk_is_found graph i j steps walk))
    | inr least ↦ least
  ],
)

pub least_depth : (graph : Graph) (i j : ℕ) → IsDepth graph i j (depth_of graph i j)
unfolding depth_of
least_depth graph i j =
    first_is_depth graph i j (first_from (has_walk graph i j) 0 graph.count) (first_is (has_walk graph i j) 0 graph.count)

pub one_depth_each : (graph : Graph) (i : ℕ) → length (depths_of graph i) ≡ graph.count
one_depth_each graph i = length-map-range_with_len (depth_of graph i) 0 graph.count

-- the depth of a node stands at its number
pub depth_is_listed : (graph : Graph) (i j : ℕ) → j < graph.count → get_or (depths_of graph i) j None ≡ depth_of graph i j
depth_is_listed graph i j node = get_or-map-range_with_len (depth_of graph i) 0 graph.count j j None node (omega arith)

pub listed_depth : (graph : Graph) (i j : ℕ) → IsDepth graph i j (get_or (depths_of graph i) j None)
listed_depth graph i j = elim (cases_lt j graph.count) [
  | inl node ↦ subst (IsDepth graph i j) (sym (depth_is_listed graph i j node)) (least_depth graph i j)
  | inr past ↦
      let none = get_or_past (depths_of graph i) j None (omega (arith, one_depth_each graph i)) in
      subst (IsDepth graph i j) (sym none) (λ steps walk. omega (arith, end_is_node graph i j steps walk))
]

pub same_depth : (graph : Graph) (i j : ℕ) (a b : Option ℕ) → IsDepth graph i j a → IsDepth graph i j b → a ≡ b
same_depth graph i j None None g h = refl
same_depth graph i j None (Some b) g h = absurd (g b h.0)
same_depth graph i j (Some a) None g h = absurd (h a g.0)
same_depth graph i j (Some a) (Some b) g h =
    let same : a ≡ b = omega (arith, g.1 b h.0, h.1 a g.0) in
    ap Some same

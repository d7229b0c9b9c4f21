-- The visits by lists are those of the graph, and their sum.
use Rattle.std.proofs.Common.{◌≡◌, ℕ, zero, suc, ◌+◌, ◌*◌, ◌<◌, Bool, cond, eqb, List, [], ◌∷◌, All, length, map, refl, sym, ap, ◌∙◌, inl, inr, arith}
use Rattle.std.specs.List.{sum, sum_by, range_with_len}
use Rattle.std.proofs.lemmas.Bool.{cases_eq, eq-eqb, ne_eqb}
use Rattle.std.proofs.lemmas.List.Sums.{sum_by-cons, sum-map}
use Rattle.std.proofs.lemmas.List.FromFn.{length-range_with_len}
use Rattle.graph_spec.specs.Graphs.{Graph, nodes}
use Rattle.vga_grid.proofs.Counting.{sum_same, sum_plus, sum_zero, count_one}
use Rattle.walk_spec.specs.declared.WalkSpec.{WalkSpec}
use Rattle.walk_spec.specs.Walks.{Walker, goes_among, stepped, walker_after, visits_by, visits_from, visits_of, neighbours_of}
use Rattle.walk_core.specs.Lists.{Lists, listed, part_visits}
use Rattle.walk_core.proofs.Walking.{walker_below}
use Rattle.walk_core.proofs.Flat.{neighbours_below}

-- ---- walkers over the same neighbours
module _ (g : Graph) (near : ℕ → List ℕ) (starts : List ℕ) (some : 0 < length starts) (all : All (λ v. v < g.count) starts)
    (same : (i : ℕ) → i < g.count → near i ≡ neighbours_of g i) where
  same_walker : (seed number steps : ℕ) → walker_after near starts seed number steps ≡ walker_after (neighbours_of g) starts seed number steps
  unfolding walker_after stepped
  same_walker seed number zero = refl
  same_walker seed number (suc steps) =
      let w = walker_after (neighbours_of g) starts seed number steps in
      let below = walker_below g.count (neighbours_of g) starts some all (λ i lt. neighbours_below g i) seed number steps in
      ap (λ (x : Walker). goes_among (near x.at) x) (same_walker seed number steps) ∙ ap (λ (xs : List ℕ). goes_among xs w) (same w.at below)

  same_by : (spec : WalkSpec) (node number : ℕ) → visits_by near starts spec node number ≡ visits_by (neighbours_of g) starts spec node number
  unfolding visits_by
  same_by spec node number =
      sum_same (λ k. cond (eqb (walker_after near starts spec.seed number k).at node) 1 0)
      (λ k. cond (eqb (walker_after (neighbours_of g) starts spec.seed number k).at node) 1 0) (range_with_len 0 (spec.steps + 1))
      (λ k. ap (λ (w : Walker). cond (eqb w.at node) 1 0) (same_walker spec.seed number k))

  pub same_from : (spec : WalkSpec) (first walkers node : ℕ) → visits_from near starts spec first walkers node ≡ visits_from (neighbours_of g) starts spec first walkers node
  unfolding visits_from
  same_from spec first walkers node =
      sum_same (visits_by near starts spec node) (visits_by (neighbours_of g) starts spec node) (range_with_len first walkers) (same_by spec node)

map_same : (f h : ℕ → ℕ) (xs : List ℕ) → ((x : ℕ) → f x ≡ h x) → map f xs ≡ map h xs
map_same f h [] e = refl
map_same f h (x ∷ xs) e = rw (e x, map_same f h xs e) refl

pub all_visits : (g : Graph) (lists : Lists) (starts : List ℕ) (spec : WalkSpec) → 0 < length starts → All (λ v. v < g.count) starts
    → lists.count ≡ g.count → ((i : ℕ) → i < g.count → listed lists i ≡ neighbours_of g i)
    → part_visits lists starts spec 0 spec.walkers ≡ visits_of g starts spec
unfolding visits_of
all_visits g lists starts spec some all count same =
    ap (λ (n : ℕ). map (visits_from (listed lists) starts spec 0 spec.walkers) (range_with_len 0 n)) count
    ∙ map_same (visits_from (listed lists) starts spec 0 spec.walkers) (visits_from (neighbours_of g) starts spec 0 spec.walkers) (range_with_len 0 g.count)
    (same_from g (listed lists) starts some all same spec 0 spec.walkers)

-- ---- the sum
-- sums over two lists in either order
exchanged : (h : ℕ → ℕ → ℕ) (xs ys : List ℕ) → sum_by (λ x. sum_by (h x) ys) xs ≡ sum_by (λ y. sum_by (λ x. h x y) xs) ys
exchanged h xs [] = sum_zero (λ x. sum_by (h x) []) xs (λ x. refl)
exchanged h xs (y ∷ ys) =
    sum_same (λ x. sum_by (h x) (y ∷ ys)) (λ x. h x y + sum_by (h x) ys) xs (λ x. sum_by-cons (h x) y ys)
    ∙ sum_plus (λ x. h x y) (λ x. sum_by (h x) ys) xs
    ∙ ap (λ (n : ℕ). sum_by (λ x. h x y) xs + n) (exchanged h xs ys)
    ∙ sym (sum_by-cons (λ z. sum_by (λ x. h x z) xs) y ys)

eqb_flip : (a b : ℕ) → eqb a b ≡ eqb b a
eqb_flip a b = elim (cases_eq a b) [
  | inl e ↦ eq-eqb a b e ∙ sym (eq-eqb b a (sym e))
  | inr ne ↦ ne_eqb a b ne ∙ sym (ne_eqb b a (λ e. ne (sym e)))
]

-- a node is one of the nodes
one_of : (at n : ℕ) → at < n → sum_by (λ node. cond (eqb at node) 1 0) (range_with_len 0 n) ≡ 1
one_of at n lt =
    sum_same (λ node. cond (eqb at node) 1 0) (λ node. cond (eqb node at) 1 0) (range_with_len 0 n) (λ node. ap (λ (b : Bool). cond b 1 0) (eqb_flip at node))
    ∙ count_one at 0 n (omega arith) (omega (arith, lt))

-- as much for each
sum_each : (f : ℕ → ℕ) (m : ℕ) (xs : List ℕ) → ((x : ℕ) → f x ≡ m) → sum_by f xs ≡ length xs * m
sum_each f m [] e = omega arith
sum_each f m (x ∷ xs) e =
    let p : length (x ∷ xs) * m ≡ m + length xs * m = omega arith in
    omega (arith, sum_by-cons f x xs, p, e x, sum_each f m xs e)

module _ (g : Graph) (starts : List ℕ) (spec : WalkSpec) (some : 0 < length starts) (all : All (λ v. v < g.count) starts) where
  below : (number steps : ℕ) → (walker_after (neighbours_of g) starts spec.seed number steps).at < g.count
  below number steps = walker_below g.count (neighbours_of g) starts some all (λ i lt. neighbours_below g i) spec.seed number steps

  -- each walker visits a node once more than it has steps
  by_one : (number : ℕ) → sum_by (λ node. visits_by (neighbours_of g) starts spec node number) (nodes g) ≡ spec.steps + 1
  unfolding visits_by
  by_one number =
      exchanged (λ node k. cond (eqb (walker_after (neighbours_of g) starts spec.seed number k).at node) 1 0) (nodes g) (range_with_len 0 (spec.steps + 1))
      ∙ sum_each (λ k. sum_by (λ node. cond (eqb (walker_after (neighbours_of g) starts spec.seed number k).at node) 1 0) (nodes g)) 1 (range_with_len 0 (spec.steps + 1))
      (λ k. one_of (walker_after (neighbours_of g) starts spec.seed number k).at g.count (below number k))
      ∙ omega (arith, length-range_with_len 0 (spec.steps + 1))

  pub sum_of_visits : sum (visits_of g starts spec) ≡ spec.walkers * (spec.steps + 1)
  unfolding visits_of visits_from
  sum_of_visits =
      sum-map (visits_from (neighbours_of g) starts spec 0 spec.walkers) (nodes g)
      ∙ exchanged (visits_by (neighbours_of g) starts spec) (nodes g) (range_with_len 0 spec.walkers)
      ∙ sum_each (λ number. sum_by (λ node. visits_by (neighbours_of g) starts spec node number) (nodes g)) (spec.steps + 1) (range_with_len 0 spec.walkers) by_one
      ∙ ap (λ (n : ℕ). n * (spec.steps + 1)) (length-range_with_len 0 spec.walkers)

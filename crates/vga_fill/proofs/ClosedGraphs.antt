-- The pairs of a table, row by row: those whose places are 1 are joined.
use Rattle.std.specs.Prelude.{◌≡◌, ℕ, ◌+◌, ◌<◌, ◌≤◌, ◌&&◌, nat_lt, Bool, true, false, List, length}
use Rattle.std.proofs.Common.{refl, sym, ap, ◌∙◌, inl, inr, arith}
use Rattle.std.proofs.lemmas.Bool.{cases_eq, cases_lt, cases_Bool, eq-eqb, ne_eqb, lt-ltb, le-ltb}
use Rattle.map_laws.proofs.SimpleGraphs.{visibility_graph_is_simple}
use Rattle.plan_spec.specs.Plan.{Plan}
use Rattle.plan_spec.specs.Grid.{grid_points}
use Rattle.sight_spec.specs.Visibility.{visibility_graph}
use Rattle.vga_grid.specs.Rows.{graph_of, Matrix}
use Rattle.vga_grid.proofs.Covered.{is_covered, graph_is, are_joined}
use Rattle.vga_fill.specs.Graphs.{IsReadFrom, is_one}

module _ (n : ℕ) (ones : ℕ → ℕ → Bool) where
  -- the pair is one of nodes, and its place is 1
  abbrev pub is_told : ℕ → ℕ → Bool
  is_told a b = nat_lt b n && ones a b

  and_none : (t : Bool) → (t && false) ≡ false
  and_none true = refl
  and_none false = refl

  -- places of a row that are 0 are passed over
  pub passed_over : (i j m a b : ℕ) → j ≤ m → ((k : ℕ) → j ≤ k → k < m → ones i k ≡ false)
      → (is_told a b && is_covered i j a b) ≡ (is_told a b && is_covered i m a b)
  passed_over i j m a b order none = elim (cases_eq a i) [
    | inr other ↦ rw (ne_eqb a i other) refl
    | inl here ↦ elim (cases_lt b j) [
      | inl less ↦ rw (eq-eqb a i here, lt-ltb b j less, lt-ltb b m (omega (arith, less, order))) refl
      | inr past ↦ elim (cases_lt b m) [
        | inl between ↦
            let off : is_told a b ≡ false
            = ap (λ t. nat_lt b n && t) (ap (λ (k : ℕ). ones k b) here ∙ none b past between) ∙ and_none (nat_lt b n) in
            rw off refl
        | inr beyond ↦ rw (le-ltb b j past, le-ltb b m beyond) refl
      ]
    ]
  ]

  pub row_ended : (i j a b : ℕ) → n ≤ j → a < b → (is_told a b && is_covered i j a b) ≡ (is_told a b && nat_lt a (i + 1))
  row_ended i j a b past up = elim (cases_lt b n) [
    | inr beyond ↦ rw (le-ltb b n beyond) refl
    | inl below ↦
        rw (lt-ltb b n below, lt-ltb b j (omega (arith, below, past)))
        (ap (λ t. ones a b && t) (elim (cases_lt a i) [
          | inl less ↦ rw (lt-ltb a i less, lt-ltb a (i + 1) (omega (arith, less))) refl
          | inr more ↦ elim (cases_eq a i) [
            | inl here ↦ rw (le-ltb a i more, eq-eqb a i here, lt-ltb a (i + 1) (omega (arith, here))) refl
            | inr other ↦ rw (le-ltb a i more, ne_eqb a i other, le-ltb a (i + 1) (omega (arith, more, other))) refl
          ]
        ]))
  ]

  pub rows_ended : (i a b : ℕ) → n ≤ i → a < b → (is_told a b && nat_lt a i) ≡ is_told a b
  rows_ended i a b past up = elim (cases_lt b n) [
    | inr beyond ↦ rw (le-ltb b n beyond) refl
    | inl below ↦ rw (lt-ltb b n below, lt-ltb a i (omega (arith, below, past, up))) (all (ones a b))
  ]
    where
      all : (t : Bool) → (t && true) ≡ t
      all true = refl
      all false = refl

-- a graph that was read where the places tell what the plan's visibility graph joins is that graph
pub read_is : (plan : Plan) (words : List ℕ) (n : ℕ) (m : Matrix) → length (grid_points plan.grid) ≡ n
    → ((i j : ℕ) → i < n → j < n → is_one words n i j ≡ are_joined plan i j) → IsReadFrom words n m → graph_of m ≡ visibility_graph plan
read_is plan words n m count told read =
    graph_is plan (graph_of m) read.simple (read.count ∙ sym count) (λ a b up. read.joined a b up ∙ same a b up)
  where
    same : (a b : ℕ) → a < b → (nat_lt b n && is_one words n a b) ≡ are_joined plan a b
    same a b up = elim (cases_lt b n) [
      | inl below ↦ rw (lt-ltb b n below) (told a b (omega (arith, up, below)) below)
      | inr beyond ↦ elim (cases_Bool (are_joined plan a b)) [
        | inl joined ↦
            let nodes = (visibility_graph_is_simple plan).on_nodes a b joined in
            absurd (omega (arith, nodes.1, beyond, count))
        | inr apart ↦ rw (le-ltb b n beyond, apart) refl
      ]
    ]

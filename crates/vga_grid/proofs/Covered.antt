-- Pairs of numbers, row by row: those that were looked at are joined where they see each other.
use Rattle.std.specs.Prelude.{◌≡◌, ◌≢◌, ℕ, ◌+◌, ◌<◌, ◌≤◌, nat_lt, Bool, true, false, ◌&&◌, ◌||◌, ◌==◌, not, List, length, slice_index_or}
use Rattle.std.proofs.Common.{refl, sym, ap, ◌∙◌, inl, inr, ◌⊎◌, arith}
use Rattle.std.proofs.lemmas.Bool.{cases_eq, cases_lt, cases_Bool, eq-eqb, ne_eqb, lt-ltb, le-ltb, ltb-true, and_parts}
use Rattle.std.proofs.lemmas.List.FromFn.{get_or-map-range_with_len, length-range_with_len}
use Rattle.std.proofs.lemmas.List.{length-map}
use Rattle.std.specs.List.{range_with_len}
use Rattle.plan_spec.specs.Plan.{Plan}
use Rattle.plan_spec.specs.Grid.{grid_points, point_of_number}
use Rattle.sight_spec.specs.Scene.{scene_of}
use Rattle.sight_spec.specs.Sight.{are_in_sight}
use Rattle.graph_spec.specs.Graphs.{Graph, IsSimpleGraph}
use Rattle.sight_spec.specs.Visibility.{visibility_graph}
use Rattle.graph_laws.proofs.SameGraphs.{same_simple_graphs}
use Rattle.map_laws.proofs.SimpleGraphs.{visibility_graph_is_simple}
use Rattle.vga_grid.specs.Rows.{is_pair}
use Rattle.vga_grid.specs.Openness.{is_number_open, openness_of}

-- the pair (a, b), a the smaller, comes before (i, j)
abbrev pub is_covered : ℕ → ℕ → ℕ → ℕ → Bool
is_covered i j a b = nat_lt a i || (a == i && nat_lt b j)

-- either (a, b) is (i, j), or it is covered afterwards where it was before
covered_more : (i j a b : ℕ) → i < j → a < b
    → ((a ≡ i) × (b ≡ j)) ⊎ ((is_pair i j a b ≡ false) × (is_covered i (j + 1) a b ≡ is_covered i j a b))
covered_more i j a b rises up = elim (cases_eq a i) [
  | inl here ↦ elim (cases_eq b j) [
    | inl there ↦ inl (here, there)
    | inr other ↦
        let apart : a ≢ j = λ e. omega (arith, e, here, rises) in
        inr (
          rw (ne_eqb b j other, ne_eqb a j apart) (grind arith),
          elim (cases_lt b j) [
            | inl less ↦ rw (lt-ltb b j less, lt-ltb b (j + 1) (omega arith)) refl
            | inr more ↦ rw (le-ltb b j more, le-ltb b (j + 1) (omega (arith, more, other))) refl
          ],
        )
  ]
  | inr elsewhere ↦
      let turned : (a == j && b == i) ≡ false = elim (cases_eq a j) [
        | inl e ↦ let n : b ≢ i = λ f. omega (arith, e, f, rises, up) in rw (ne_eqb b i n) (grind arith)
        | inr n ↦ rw (ne_eqb a j n) refl
      ] in
      inr (rw (ne_eqb a i elsewhere, turned) refl, rw (ne_eqb a i elsewhere) refl)
]

module _ (seen : ℕ → ℕ → Bool) (i j a b : ℕ) (rises : i < j) (up : a < b) where
  pub joined_more : (old new : Bool) → seen i j ≡ true → old ≡ (seen a b && is_covered i j a b)
      → new ≡ (old || is_pair i j a b) → new ≡ (seen a b && is_covered i (j + 1) a b)
  joined_more old new sees before after = elim (covered_more i j a b rises up) [
    | inl same ↦
        let pair : is_pair i j a b ≡ true = rw (eq-eqb a i same.0, eq-eqb b j same.1) refl in
        let now : is_covered i (j + 1) a b ≡ true
        = rw (eq-eqb a i same.0, lt-ltb b (j + 1) (omega (arith, same.1))) (grind arith) in
        let both : seen a b ≡ true = ap (λ (k : ℕ). seen k b) same.0 ∙ ap (seen i) same.1 ∙ sees in
        after ∙ rw (pair, now, both) (grind arith)
    | inr other ↦ after ∙ rw (other.0, other.1, before) (grind arith)
  ]

  pub same_more : (old : Bool) → seen i j ≡ false → old ≡ (seen a b && is_covered i j a b)
      → old ≡ (seen a b && is_covered i (j + 1) a b)
  same_more old hidden before = elim (covered_more i j a b rises up) [
    | inl same ↦
        let both : seen a b ≡ false = ap (λ (k : ℕ). seen k b) same.0 ∙ ap (seen i) same.1 ∙ hidden in
        before ∙ rw both refl
    | inr other ↦ before ∙ ap (λ t. seen a b && t) (sym other.1)
  ]

-- before a row's first pair the earlier rows are covered
pub row_begun : (i a b : ℕ) → a < b → is_covered i (i + 1) a b ≡ nat_lt a i
row_begun i a b up = elim (cases_eq a i) [
  | inl here ↦ rw (le-ltb b (i + 1) (omega (arith, here, up)), le-ltb a i (omega (arith, here))) (grind arith)
  | inr other ↦ rw (ne_eqb a i other) (grind arith)
]

-- ---- the visibility graph

module _ (plan : Plan) where
  abbrev count : ℕ
  count = length (grid_points plan.grid)

  abbrev pub are_joined : ℕ → ℕ → Bool
  are_joined i j = (visibility_graph plan).joins i j

  pub visible_is : (flags : List Bool) (i j : ℕ) (t : Bool) → flags ≡ openness_of plan (length (grid_points plan.grid))
      → i < j → j < length (grid_points plan.grid)
      → t ≡ ((slice_index_or flags i false && slice_index_or flags j false)
      && are_in_sight (scene_of plan) (point_of_number plan.grid i) (point_of_number plan.grid j))
      → t ≡ are_joined i j
  visible_is flags i j t tested rises below is =
      let first = get_or-map-range_with_len (is_number_open plan) 0 count i i false (omega (arith, rises, below)) (omega arith) in
      let second = get_or-map-range_with_len (is_number_open plan) 0 count j j false below (omega arith) in
      let other = ne_eqb i j (λ e. omega (arith, e, rises)) in
      is ∙ rw (tested, first, second, lt-ltb i count (omega (arith, rises, below)), lt-ltb j count below, other) refl

  pub flag_count : (n : ℕ) → length (openness_of plan n) ≡ n
  flag_count n = length-map (range_with_len 0 n) (is_number_open plan) ∙ length-range_with_len 0 n

  -- no pair is joined past the last number
  joined_below : (a b : ℕ) → are_joined a b ≡ true → (a < count) × (b < count)
  joined_below a b joined = (visibility_graph_is_simple plan).on_nodes a b joined

  pub row_ended : (i j a b : ℕ) → length (grid_points plan.grid) ≤ j → a < b
      → (are_joined a b && is_covered i j a b) ≡ (are_joined a b && nat_lt a (i + 1))
  row_ended i j a b past up = elim (cases_Bool (are_joined a b)) [
    | inl joined ↦
        let below = joined_below a b joined in
        rw (joined, lt-ltb b j (omega (arith, below.1, past))) (elim (cases_lt a i) [
          | inl less ↦ rw (lt-ltb a i less, lt-ltb a (i + 1) (omega arith)) refl
          | inr more ↦ elim (cases_eq a i) [
            | inl here ↦ rw (le-ltb a i more, eq-eqb a i here, lt-ltb a (i + 1) (omega (arith, here))) refl
            | inr other ↦
                rw (le-ltb a i more, ne_eqb a i other, le-ltb a (i + 1) (omega (arith, more, other))) refl
          ]
        ])
    | inr apart ↦ rw apart refl
  ]

  pub rows_ended : (i a b : ℕ) → length (grid_points plan.grid) ≤ i → (are_joined a b && nat_lt a i) ≡ are_joined a b
  rows_ended i a b past = elim (cases_Bool (are_joined a b)) [
    | inl joined ↦
        let below = joined_below a b joined in
        rw (joined, lt-ltb a i (omega (arith, below.0, past))) refl
    | inr apart ↦ rw apart refl
  ]

  pub graph_is : (graph : Graph) → IsSimpleGraph graph → graph.count ≡ length (grid_points plan.grid)
      → ((a b : ℕ) → a < b → graph.joins a b ≡ are_joined a b) → graph ≡ visibility_graph plan
  graph_is graph simple nodes joins =
      same_simple_graphs graph (visibility_graph plan) simple (visibility_graph_is_simple plan)
      (record { count = nodes; joins = λ a b below_a below_b. same a b })
    where
      same : (a b : ℕ) → graph.joins a b ≡ are_joined a b
      same a b = elim (cases_eq a b) [
        | inl e ↦
            ap (graph.joins a) (sym e) ∙ simple.loopless a
            ∙ sym (ap (are_joined a) (sym e) ∙ (visibility_graph_is_simple plan).loopless a)
        | inr n ↦ elim (cases_lt a b) [
          | inl up ↦ joins a b up
          | inr down ↦
              simple.symmetric a b ∙ joins b a (omega (arith, down, n)) ∙ (visibility_graph_is_simple plan).symmetric b a
        ]
      ]

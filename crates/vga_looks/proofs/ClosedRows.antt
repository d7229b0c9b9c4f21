-- A closed point has no edges, so its row needs no look.
use Rattle.std.specs.Prelude.{◌≡◌, ℕ, ◌+◌, ◌<◌, nat_lt, Bool, false, ◌&&◌, List, length, slice_index_or}
use Rattle.std.proofs.Common.{refl, sym, ap, ◌∙◌, inl, inr, arith}
use Rattle.std.proofs.lemmas.Bool.{cases_eq, cases_lt, cases_Bool, lt-ltb, le-ltb}
use Rattle.plan_spec.specs.Plan.{Plan}
use Rattle.plan_spec.specs.Grid.{grid_points}
use Rattle.map_laws.proofs.SimpleGraphs.{visibility_graph_is_simple}
use Rattle.vga_grid.specs.Openness.{openness_of}
use Rattle.vga_grid.proofs.Covered.{are_joined, visible_is}

module _ (plan : Plan) (flags : List Bool) (i a b : ℕ) (tested : flags ≡ openness_of plan (length (grid_points plan.grid)))
    (closed : slice_index_or flags i false ≡ false) (up : a < b) where
  no_edge : a ≡ i → are_joined plan a b ≡ false
  no_edge here = elim (cases_lt b (length (grid_points plan.grid))) [
    | inl inside ↦
        ap (λ (k : ℕ). are_joined plan k b) here
        ∙ sym (visible_is plan flags i b false tested (omega (arith, here, up)) inside (rw closed refl))
    | inr beyond ↦ elim (cases_Bool (are_joined plan a b)) [
      | inl joined ↦
          let nodes = (visibility_graph_is_simple plan).on_nodes a b joined in
          absurd (omega (arith, nodes.1, beyond))
      | inr apart ↦ apart
    ]
  ]

  pub closed_row : (are_joined plan a b && nat_lt a i) ≡ (are_joined plan a b && nat_lt a (i + 1))
  closed_row = elim (cases_eq a i) [
    | inl here ↦ rw (no_edge here) refl
    | inr other ↦ elim (cases_lt a i) [
      | inl less ↦ rw (lt-ltb a i less, lt-ltb a (i + 1) (omega (arith, less))) refl
      | inr more ↦ rw (le-ltb a i more, le-ltb a (i + 1) (omega (arith, more, other))) refl
    ]
  ]

-- Graphs that join different nodes by a test that goes both ways are simple: those of what is seen, and of what meets.
use Rattle.std.specs.Prelude.{◌≡◌, ℕ, ◌==◌, nat_lt, Bool, false, ◌&&◌, ◌||◌, not, List, length}
use Rattle.std.proofs.Common.{refl, sym, ◌∙◌, inl, inr, arith}
use Rattle.std.proofs.Math.Bool.{and_comm, or_comm}
use Rattle.std.proofs.lemmas.Bool.{cases_eq, and_parts, eq-eqb, ne_eqb, ltb-true}
use Rattle.plane_spec.specs.declared.Point.{Point}
use Rattle.plan_spec.specs.Plan.{Plan}
use Rattle.sight_spec.specs.Scene.{Scene, scene_of}
use Rattle.sight_spec.specs.Sight.{is_open}
use Rattle.graph_spec.specs.Graphs.{IsSimpleGraph, graph_where}
use Rattle.plan_spec.specs.Grid.{grid_points, point_of_number}
use Rattle.sight_spec.specs.Visibility.{are_visible, visibility_graph}
use Rattle.sight_spec.specs.Axial.{AxialLine, do_meet, line_of_number, crossing_graph}
use Rattle.plane_spec.specs.Segments.{are_opposite}
use Rattle.plane_spec.specs.Fractions.{RPoint}
use Rattle.plane_spec.specs.RPoints.{orient_of_rpoints, is_rpoint_on_segment, do_rpoints_cross, do_rsegments_touch}
use Rattle.map_laws.proofs.MutualSight.{sight_turned}

-- both numbers are below the count and differ
abbrev are_nodes : ℕ → ℕ → ℕ → Bool
are_nodes count i j = (nat_lt i count && nat_lt j count) && not (i == j)

equal_turned : (i j : ℕ) → (i == j) ≡ (j == i)
equal_turned i j = elim (cases_eq i j) [
  | inl same ↦ eq-eqb i j same ∙ sym (eq-eqb j i (sym same))
  | inr other ↦ ne_eqb i j other ∙ sym (ne_eqb j i (λ e. other (sym e)))
]

nodes_turned : (count i j : ℕ) → are_nodes count i j ≡ are_nodes count j i
nodes_turned count i j = rw (and_comm (nat_lt i count) (nat_lt j count), equal_turned i j) refl

no_loop : (count i : ℕ) (test : Bool) → (are_nodes count i i && test) ≡ false
no_loop count i test = rw (eq-eqb i i refl) (grind arith)

pub graph_where_is_simple : (count : ℕ) (test : ℕ → ℕ → Bool) → ((i j : ℕ) → test i j ≡ test j i)
    → IsSimpleGraph (graph_where count test)
graph_where_is_simple count test turned = record {
  symmetric = λ i j. rw (nodes_turned count i j, turned i j) refl;
  loopless = λ i. no_loop count i (test i i);
  on_nodes = λ i j joined.
      let parts = and_parts (are_nodes count i j) (test i j) joined in
      let below = and_parts (nat_lt i count && nat_lt j count) (not (i == j)) parts.0 in
      let each = and_parts (nat_lt i count) (nat_lt j count) below.0 in
      (ltb-true i count each.0, ltb-true j count each.1);
}

-- ---- what is seen

visible_turned : (plan : Plan) (scene : Scene) (p q : Point) → are_visible plan scene p q ≡ are_visible plan scene q p
visible_turned plan scene p q = rw (and_comm (is_open plan p) (is_open plan q), sight_turned scene p q) refl

pub visibility_graph_is_simple : (plan : Plan) → IsSimpleGraph (visibility_graph plan)
visibility_graph_is_simple plan =
    graph_where_is_simple (length (grid_points plan.grid))
    (λ i j. are_visible plan (scene_of plan) (point_of_number plan.grid i) (point_of_number plan.grid j))
    (λ i j. visible_turned plan (scene_of plan) (point_of_number plan.grid i) (point_of_number plan.grid j))

-- ---- what meets

cross_turned : (a b c d : RPoint) → do_rpoints_cross a b c d ≡ do_rpoints_cross c d a b
cross_turned a b c d =
    and_comm (are_opposite (orient_of_rpoints a b c) (orient_of_rpoints a b d))
    (are_opposite (orient_of_rpoints c d a) (orient_of_rpoints c d b))

touch_turned : (a b c d : RPoint) → do_rsegments_touch a b c d ≡ do_rsegments_touch c d a b
unfolding do_rsegments_touch
touch_turned a b c d =
    let ends = or_comm (is_rpoint_on_segment a c d || is_rpoint_on_segment b c d) (is_rpoint_on_segment c a b || is_rpoint_on_segment d a b) in
    rw (cross_turned a b c d, ends) refl

pub crossing_graph_is_simple : (lines : List AxialLine) → IsSimpleGraph (crossing_graph lines)
unfolding crossing_graph
crossing_graph_is_simple lines =
    graph_where_is_simple (length lines) (λ i j. do_meet (line_of_number lines i) (line_of_number lines j))
    (λ i j.
    let l = line_of_number lines i in
    let m = line_of_number lines j in
    touch_turned l.from l.to m.from m.to)

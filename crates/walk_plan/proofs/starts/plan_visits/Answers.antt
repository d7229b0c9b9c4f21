use Rattle.std.proofs.Common.{◌≡◌, ◌<◌, ℕ, List, All, length, map, ap, sym, subst, ◌∙◌}
use Rattle.std.proofs.lemmas.Result.{IfOk-weaker}
use Rattle.plane_spec.specs.declared.Point.{Point}
use Rattle.plan_spec.specs.Grid.{grid_points}
use Rattle.graph_spec.specs.Graphs.{Graph}
use Rattle.sight_spec.specs.Visibility.{open_points, visibility_graph}
use Rattle.vga_grid.specs.Rows.{graph_of}
use Rattle.walk_spec.specs.Walks.{visits_of}
use Rattle.walk_plan.specs.PlanWalks.{visits_over}
use Rattle.walk_plan.proofs.Numbers.{starts_below}
use Rattle.walk_plan.proofs.starts.plan_visits.Goals as goal

pub walk-requires-clause-nodes : goal.walk-requires-clause-nodes
walk-requires-clause-nodes g c κs within =
    let count : c.in_ok-graph.graph.count ≡ length (grid_points c.args.plan.now.grid) = ap (λ (x : Graph). x.count) c.in_ok-graph.ensures in
    let starts : c.deref.result.now ≡ map (λ (e : ℕ × Point). e.0) (open_points c.args.plan.now) =
    c.deref.ensures.value ∙ c.in_ok-starts.ensures ∙ ap (map (λ (e : ℕ × Point). e.0)) c.requires.points in
    subst (λ (n : ℕ). All (λ start. start < n) c.deref.result.now) (sym count)
    (subst (λ (xs : List ℕ). All (λ start. start < length (grid_points c.args.plan.now.grid)) xs) (sym starts) (starts_below c.args.plan.now))

pub returns-clause-visits : goal.returns-clause-visits
unfolding visits_over
returns-clause-visits g c =
    let starts : c.deref.result.now ≡ map (λ (e : ℕ × Point). e.0) (open_points c.args.plan.now) =
    c.deref.ensures.value ∙ c.in_ok-starts.ensures ∙ ap (map (λ (e : ℕ × Point). e.0)) c.requires.points in
    IfOk-weaker c.walk.result (λ visits. visits.items ≡ visits_of (graph_of c.in_ok-graph.graph) c.deref.result.now c.args.spec.now)
    (λ visits. visits.items ≡ visits_of (visibility_graph c.args.plan.now) (map (λ (e : ℕ × Point). e.0) (open_points c.args.plan.now)) c.args.spec.now)
    (λ visits e. e ∙ ap (λ (x : Graph). visits_of x c.deref.result.now c.args.spec.now) c.in_ok-graph.ensures
    ∙ ap (λ (xs : List ℕ). visits_of (visibility_graph c.args.plan.now) xs c.args.spec.now) starts)
    c.walk.ensures.visits

use Rattle.std.proofs.Common.{◌∙◌, ◌≡◌, ◌≤◌, List, ap, arith, length, subst, sym}
use Rattle.std.specs.List.{All}
use Rattle.graph_spec.specs.Graphs.{Graph, Measures, edges_of}
use Rattle.plan_spec.specs.Plan.{Plan}
use Rattle.plan_spec.specs.Grid.{grid_points}
use Rattle.sight_spec.specs.Visibility.{open_points, visibility_graph}
use Rattle.vga_grid.specs.Rows.{graph_of}
use Rattle.map_laws.proofs.Visibility.{edges_are}
use Rattle.plan_edit.specs.Sessions.{Session}
use Rattle.plan_answers.proofs.TrialSums.{depth_sum, open_at_most, same_record, totals_small}
use Rattle.plan_answers.proofs.trials.counts_of.Goals as goal

pub graph-requires : goal.graph-requires
graph-requires g c =
    ap (λ (s : Session). s.keeps_graph) c.in_ok-make_graph.ensures.made

pub graph-requires-2 : goal.graph-requires-2
graph-requires-2 g c =
    ap (λ (s : Session). s.keeps_graph) c.in_ok-make_graph.ensures.made

pub sum_totals-depth-requires-clause-few : goal.sum_totals-depth-requires-clause-few
sum_totals-depth-requires-clause-few g c =
    let most : c.count-points.result ≤ 4096 = c.count-points.ensures.at_most in
    let count : c.count-points.result ≡ length (grid_points c.plan-2.result.now.grid) =
    c.count-points.ensures.count ∙ ap (λ q. length (grid_points q)) c.of.ensures.grid
    ∙ ap (λ (q : Plan). length (grid_points q.grid)) (c.plan.ensures ∙ sym c.plan-2.ensures) in
    let opened : length c.deref.result.now ≡ length (open_points c.plan-2.result.now) =
    ap length (c.deref.ensures.value ∙ c.in_ok-open.ensures.points) in
    omega (arith, most, count, opened, open_at_most c.plan-2.result.now)

pub overflow_cast-result : goal.overflow_cast-result
overflow_cast-result g c =
    let most : c.count-points.result ≤ 4096 = c.count-points.ensures.at_most in
    let count : c.count-points.result ≡ length (grid_points c.plan-2.result.now.grid) =
    c.count-points.ensures.count ∙ ap (λ q. length (grid_points q)) c.of.ensures.grid
    ∙ ap (λ (q : Plan). length (grid_points q.grid)) (c.plan.ensures ∙ sym c.plan-2.ensures) in
    let opened : length c.deref.result.now ≡ length (open_points c.plan-2.result.now) =
    ap length (c.deref.ensures.value ∙ c.in_ok-open.ensures.points) in
    omega (arith, most, count, opened, open_at_most c.plan-2.result.now, c.len.ensures, c.deref.ensures.len)

pub sum_totals-depth-requires-clause-at_most : goal.sum_totals-depth-requires-clause-at_most
sum_totals-depth-requires-clause-at_most g c =
    let most : c.count-points.result ≤ 4096 = c.count-points.ensures.at_most in
    let count : (graph_of c.graph.result.now).count ≡ c.count-points.result =
    ap (λ (h : Graph). h.count) c.graph.ensures ∙ sym (c.count-points.ensures.count ∙ ap (λ q. length (grid_points q)) c.of.ensures.grid
    ∙ ap (λ (q : Plan). length (grid_points q.grid)) c.plan.ensures) in
    subst (λ (ms : List Measures). All (λ m. m.total ≤ 16777216) ms) (sym (c.deref-2.ensures.value ∙ c.in_ok-measures.ensures))
    (totals_small (graph_of c.graph.result.now) (omega (arith, most, count)))

pub returns : goal.returns
returns g c =
    λ boxes. same_record boxes _ _ _ _ _ _ _ _
    (c.count-points.ensures.count ∙ ap (λ q. length (grid_points q)) c.of.ensures.grid
    ∙ ap (λ (q : Plan). length (grid_points q.grid)) (c.plan.ensures ∙ ap (λ (s : Session). s.plan) c.in_ok-make_graph.ensures.made))
    (c.len.ensures ∙ sym c.deref.ensures.len ∙ ap length (c.deref.ensures.value ∙ c.in_ok-open.ensures.points ∙ ap open_points (c.plan-2.ensures ∙ ap (λ (s : Session). s.plan) c.in_ok-make_graph.ensures.made)))
    (c.edge_count.ensures ∙ ap (λ (h : Graph). length (edges_of h)) (c.graph-2.ensures ∙ ap (λ (s : Session). visibility_graph s.plan) c.in_ok-make_graph.ensures.made)
    ∙ ap length (edges_are c.args.session.now.plan))
    (c.sum_totals-depth.ensures ∙ depth_sum c.args.session.now.plan _ _ _ (c.graph.ensures ∙ ap (λ (s : Session). visibility_graph s.plan) c.in_ok-make_graph.ensures.made)
    (c.deref.ensures.value ∙ (c.in_ok-open.ensures.points ∙ ap open_points (c.plan-2.ensures ∙ ap (λ (s : Session). s.plan) c.in_ok-make_graph.ensures.made))) (c.deref-2.ensures.value ∙ c.in_ok-measures.ensures))

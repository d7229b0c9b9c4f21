use Rattle.std.proofs.Common.{◌∙◌, ◌≡◌, ◌∷◌, ◌++◌, [], ap, false, length, List, not, refl, subst, sym, true, ◌<◌, ℕ}
use Rattle.report_spec.specs.Output.{mode_records}
use Rattle.plan_edit.specs.Sessions.{Session}
use Rattle.sight_spec.specs.Visibility.{open_points, visibility_graph}
use Rattle.plan_answers.proofs.Asked.{on_fault}
use Rattle.plan_answers.proofs.Printed.{nothing}
use Rattle.plan_answers.proofs.PlanTables.{edges_of_plan, points_of_plan, same_rows, two_tables}
use Rattle.plan_answers.proofs.Keeping.{keeps_same, keeps_with_graph}
use Rattle.plan_answers.proofs.modes.put_vga.Goals as goal

pub returns-in_err-make_graph-clause-answers : goal.returns-in_err-make_graph-clause-answers
returns-in_err-make_graph-clause-answers g c =
    on_fault _ _ _ _ _ c.from_residual.result _ c.from_residual.ensures.1 (nothing _ _)

pub returns-in_err-make_graph-clause-plan : goal.returns-in_err-make_graph-clause-plan
returns-in_err-make_graph-clause-plan g c =
    ap (λ (s : Session). s.plan) c.in_err-make_graph.ensures.stays

pub returns-in_err-points-clause-answers : goal.returns-in_err-points-clause-answers
returns-in_err-points-clause-answers g c =
    on_fault _ _ _ _ _ c.from_residual-in_err-points.result _ c.from_residual-in_err-points.ensures.1 (nothing _ _)

pub returns-in_err-points-clause-plan : goal.returns-in_err-points-clause-plan
returns-in_err-points-clause-plan g c =
    ap (λ (s : Session). s.plan) c.in_ok-make_graph.ensures.made

pub graph-requires : goal.graph-requires
graph-requires g c =
    ap (λ (s : Session). s.keeps_graph) c.in_ok-make_graph.ensures.made

pub returns-in_err-measures-clause-answers : goal.returns-in_err-measures-clause-answers
returns-in_err-measures-clause-answers g c =
    on_fault _ _ _ _ _ c.from_residual-in_err-measures.result _ c.from_residual-in_err-measures.ensures.1 (nothing _ _)

pub returns-in_err-measures-clause-plan : goal.returns-in_err-measures-clause-plan
returns-in_err-measures-clause-plan g c =
    ap (λ (s : Session). s.plan) c.in_ok-make_graph.ensures.made

pub graph-requires-2 : goal.graph-requires-2
graph-requires-2 g c =
    ap (λ (s : Session). s.keeps_graph) c.in_ok-make_graph.ensures.made

pub returns-clause-answers : goal.returns-clause-answers
unfolding mode_records
returns-clause-answers g c =
    same_rows c.args.form (g.O.Sink.written c.args.out.now) (g.O.Sink.written c.put_both.new.out) _ _ _ c.put_both.result
    (two_tables _ _ _ _ (edges_of_plan c.args.session.now.plan _ (c.graph-2.ensures ∙ ap (λ (s : Session). visibility_graph s.plan) c.in_ok-make_graph.ensures.made))
    (points_of_plan c.args.session.now.plan _ _ _ (c.graph.ensures ∙ ap (λ (s : Session). visibility_graph s.plan) c.in_ok-make_graph.ensures.made)
    (c.deref.ensures.value ∙ c.in_ok-points.ensures.points ∙ ap open_points (c.plan.ensures ∙ ap (λ (s : Session). s.plan) c.in_ok-make_graph.ensures.made))
    (c.deref-2.ensures.value ∙ c.in_ok-measures.ensures)))
    c.put_both.ensures.answers

pub returns-clause-plan : goal.returns-clause-plan
returns-clause-plan g c =
    ap (λ (s : Session). s.plan) c.in_ok-make_graph.ensures.made

pub returns-in_err-make_graph-clause-keeps : goal.returns-in_err-make_graph-clause-keeps
returns-in_err-make_graph-clause-keeps g c =
    keeps_same _ _ c.in_err-make_graph.ensures.stays

pub returns-in_err-points-clause-keeps : goal.returns-in_err-points-clause-keeps
returns-in_err-points-clause-keeps g c =
    keeps_with_graph _ _ c.in_ok-make_graph.ensures.made

pub returns-in_err-measures-clause-keeps : goal.returns-in_err-measures-clause-keeps
returns-in_err-measures-clause-keeps g c =
    keeps_with_graph _ _ c.in_ok-make_graph.ensures.made

pub returns-clause-keeps : goal.returns-clause-keeps
returns-clause-keeps g c =
    keeps_with_graph _ _ c.in_ok-make_graph.ensures.made

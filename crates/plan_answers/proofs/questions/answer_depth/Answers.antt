use Rattle.std.proofs.Common.{◌∙◌, ◌≡◌, ◌∷◌, ◌++◌, [], ap, false, length, List, not, refl, subst, sym, true, ◌<◌, ℕ}
use Rattle.plan_spec.specs.Plan.{Plan}
use Rattle.plan_spec.specs.Grid.{grid_points, number_of_point}
use Rattle.sight_spec.specs.Sight.{is_open}
use Rattle.graph_spec.specs.Graphs.{Graph}
use Rattle.plan_edit.specs.Sessions.{Session}
use Rattle.sight_spec.specs.Visibility.{open_points, visibility_graph}
use Rattle.grammar_spec.specs.declared.script_line.Query.TheVariants.{Depth}
use Rattle.report_spec.specs.declared.reason.Reason.TheVariants.{Closed, NoPoint}
use Rattle.report_spec.specs.Replies.{answer}
use Rattle.report_spec.specs.Tables.{depth_table, depth_table_of}
use Rattle.plan_answers.proofs.Asked.{answered, closed_point, no_point, on_fault, open_point, refused}
use Rattle.plan_answers.proofs.Printed.{nothing}
use Rattle.plan_answers.proofs.PlanTables.{depths_of_plan}
use Rattle.plan_answers.proofs.Keeping.{keeps_itself, keeps_same, keeps_with_graph}
use Rattle.plan_answers.proofs.questions.answer_depth.Goals as goal

pub returns-in_default-clause-answers : goal.returns-in_default-clause-answers
returns-in_default-clause-answers g c =
    refused c.args.form (g.O.Sink.written c.args.out.now) (g.O.Sink.written c.put_refusal.new.out) c.args.session.now.plan c.args.number c.put_refusal.result (answer c.args.session.now.plan (Depth c.args.p)) NoPoint (no_point c.args.session.now.plan c.args.p (ap (λ (q : Plan). number_of_point q.grid c.args.p) (sym c.plan.ensures) ∙ sym c.grid_point.ensures.number ∙ c.in_default.is))
    c.put_refusal.ensures.answers

pub is_open-requires : goal.is_open-requires
is_open-requires g c =
    c.in-Some.ensures.in_range

pub returns-then-not-is_open-clause-answers : goal.returns-then-not-is_open-clause-answers
returns-then-not-is_open-clause-answers g c =
    refused c.args.form (g.O.Sink.written c.args.out.now) (g.O.Sink.written c.put_refusal-then-not-is_open.new.out) c.args.session.now.plan c.args.number c.put_refusal-then-not-is_open.result (answer c.args.session.now.plan (Depth c.args.p)) Closed (closed_point c.args.session.now.plan c.args.p c.in-Some.source
    (ap (λ (q : Plan). number_of_point q.grid c.args.p) (sym c.plan.ensures) ∙ sym c.grid_point.ensures.number ∙ c.in-Some.is)
    (ap (λ (q : Plan). is_open q c.args.p) (sym c.plan-2.ensures) ∙ sym c.is_open.ensures ∙ c.if-not-is_open.true))
    c.put_refusal-then-not-is_open.ensures.answers

pub returns-in_err-make_graph-clause-answers : goal.returns-in_err-make_graph-clause-answers
returns-in_err-make_graph-clause-answers g c =
    on_fault _ _ _ _ _ c.from_residual.result _ c.from_residual.ensures.1 (nothing _ _)

pub returns-in_err-make_graph-clause-plan : goal.returns-in_err-make_graph-clause-plan
returns-in_err-make_graph-clause-plan g c =
    ap (λ (s : Session). s.plan) c.in_err-make_graph.ensures.stays

pub returns-in_err-points-clause-answers : goal.returns-in_err-points-clause-answers
returns-in_err-points-clause-answers g c =
    on_fault _ _ _ _ _ c.from_residual-in_err-points.result _ c.from_residual-in_err-points.ensures.1 (nothing _ _)

pub returns-in_err-points-clause-plan : goal.returns-in_err-points-clause-plan
returns-in_err-points-clause-plan g c =
    ap (λ (s : Session). s.plan) c.in_ok-make_graph.ensures.made

pub graph-requires : goal.graph-requires
graph-requires g c =
    ap (λ (s : Session). s.keeps_graph) c.in_ok-make_graph.ensures.made

pub depths-requires : goal.depths-requires
depths-requires g c =
    subst (λ n. c.in-Some.source < n)
    (ap (λ (q : Plan). length (grid_points q.grid)) (c.plan.ensures ∙ sym (ap (λ (s : Session). s.plan) c.in_ok-make_graph.ensures.made))
    ∙ sym (ap (λ (h : Graph). h.count) c.graph.ensures))
    c.in-Some.ensures.below

pub returns-in_err-depths-clause-answers : goal.returns-in_err-depths-clause-answers
returns-in_err-depths-clause-answers g c =
    on_fault _ _ _ _ _ c.from_residual-in_err-depths.result _ c.from_residual-in_err-depths.ensures.1 (nothing _ _)

pub returns-in_err-depths-clause-plan : goal.returns-in_err-depths-clause-plan
returns-in_err-depths-clause-plan g c =
    ap (λ (s : Session). s.plan) c.in_ok-make_graph.ensures.made

pub returns-clause-answers : goal.returns-clause-answers
returns-clause-answers g c =
    answered c.args.form (g.O.Sink.written c.args.out.now) (g.O.Sink.written c.put_answer.new.out) c.args.session.now.plan c.args.number c.put_answer.result (answer c.args.session.now.plan (Depth c.args.p)) (depth_table c.deref.result.now c.deref-2.result.now) (depth_table_of c.args.session.now.plan c.in-Some.source)
    (depths_of_plan c.args.session.now.plan _ _ _ c.in-Some.source (c.graph.ensures ∙ ap (λ (s : Session). visibility_graph s.plan) c.in_ok-make_graph.ensures.made)
    (c.deref.ensures.value ∙ c.in_ok-points.ensures.points ∙ ap open_points (c.plan-3.ensures ∙ ap (λ (s : Session). s.plan) c.in_ok-make_graph.ensures.made))
    (c.deref-2.ensures.value ∙ c.in_ok-depths.ensures))
    (open_point c.args.session.now.plan c.args.p c.in-Some.source (ap (λ (q : Plan). number_of_point q.grid c.args.p) (sym c.plan.ensures) ∙ sym c.grid_point.ensures.number ∙ c.in-Some.is)
    (ap (λ (q : Plan). is_open q c.args.p) (sym c.plan-2.ensures) ∙ sym c.is_open.ensures ∙ c.if-not-is_open.false))
    c.put_answer.ensures.answers

pub returns-clause-plan : goal.returns-clause-plan
returns-clause-plan g c =
    ap (λ (s : Session). s.plan) c.in_ok-make_graph.ensures.made

pub returns-in_default-clause-keeps : goal.returns-in_default-clause-keeps
returns-in_default-clause-keeps g c =
    keeps_itself _

pub returns-then-not-is_open-clause-keeps : goal.returns-then-not-is_open-clause-keeps
returns-then-not-is_open-clause-keeps g c =
    keeps_itself _

pub returns-in_err-make_graph-clause-keeps : goal.returns-in_err-make_graph-clause-keeps
returns-in_err-make_graph-clause-keeps g c =
    keeps_same _ _ c.in_err-make_graph.ensures.stays

pub returns-in_err-points-clause-keeps : goal.returns-in_err-points-clause-keeps
returns-in_err-points-clause-keeps g c =
    keeps_with_graph _ _ c.in_ok-make_graph.ensures.made

pub returns-in_err-depths-clause-keeps : goal.returns-in_err-depths-clause-keeps
returns-in_err-depths-clause-keeps g c =
    keeps_with_graph _ _ c.in_ok-make_graph.ensures.made

pub returns-clause-keeps : goal.returns-clause-keeps
returns-clause-keeps g c =
    keeps_with_graph _ _ c.in_ok-make_graph.ensures.made

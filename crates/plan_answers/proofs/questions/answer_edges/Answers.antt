use Rattle.std.proofs.Common.{◌∙◌, ◌≡◌, ◌∷◌, ◌++◌, [], ap, false, length, List, not, refl, subst, sym, true, ◌<◌, ℕ}
use Rattle.report_spec.specs.Replies.{answer}
use Rattle.plan_edit.specs.Sessions.{Session}
use Rattle.sight_spec.specs.Visibility.{open_points, visibility_graph}
use Rattle.plan_answers.proofs.Asked.{on_fault}
use Rattle.plan_answers.proofs.Printed.{nothing}
use Rattle.plan_answers.proofs.PlanTables.{edges_of_plan, same_reply}
use Rattle.plan_answers.proofs.Keeping.{keeps_same, keeps_with_graph}
use Rattle.plan_answers.proofs.questions.answer_edges.Goals as goal

pub returns-in_err-make_graph-clause-answers : goal.returns-in_err-make_graph-clause-answers
returns-in_err-make_graph-clause-answers g c =
    on_fault _ _ _ _ _ c.from_residual.result _ c.from_residual.ensures.1 (nothing _ _)

pub returns-in_err-make_graph-clause-plan : goal.returns-in_err-make_graph-clause-plan
returns-in_err-make_graph-clause-plan g c =
    ap (λ (s : Session). s.plan) c.in_err-make_graph.ensures.stays

pub graph-requires : goal.graph-requires
graph-requires g c =
    ap (λ (s : Session). s.keeps_graph) c.in_ok-make_graph.ensures.made

pub returns-clause-answers : goal.returns-clause-answers
unfolding answer
returns-clause-answers g c =
    same_reply _ _ _ _ _ _ _ _ (edges_of_plan c.args.session.now.plan _ (c.graph.ensures ∙ ap (λ (s : Session). visibility_graph s.plan) c.in_ok-make_graph.ensures.made)) c.put_answer.ensures.answers

pub returns-clause-plan : goal.returns-clause-plan
returns-clause-plan g c =
    ap (λ (s : Session). s.plan) c.in_ok-make_graph.ensures.made

pub returns-in_err-make_graph-clause-keeps : goal.returns-in_err-make_graph-clause-keeps
returns-in_err-make_graph-clause-keeps g c =
    keeps_same _ _ c.in_err-make_graph.ensures.stays

pub returns-clause-keeps : goal.returns-clause-keeps
returns-clause-keeps g c =
    keeps_with_graph _ _ c.in_ok-make_graph.ensures.made

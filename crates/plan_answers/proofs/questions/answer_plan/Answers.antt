use Rattle.std.proofs.Common.{◌∙◌, ◌≡◌, ◌∷◌, ◌++◌, [], ap, false, length, List, not, refl, subst, sym, true, ◌<◌, ℕ}
use Rattle.plan_spec.specs.Plan.{items_of}
use Rattle.report_spec.specs.Replies.{answer}
use Rattle.report_spec.specs.Tables.{plan_table}
use Rattle.plan_answers.proofs.Asked.{on_fault}
use Rattle.plan_answers.proofs.Printed.{nothing}
use Rattle.plan_answers.proofs.PlanTables.{same_reply}
use Rattle.plan_answers.proofs.questions.answer_plan.Goals as goal

pub returns-in_err-listed-clause-answers : goal.returns-in_err-listed-clause-answers
returns-in_err-listed-clause-answers g c =
    on_fault _ _ _ _ _ c.from_residual.result _ c.from_residual.ensures.1 (nothing _ _)

pub returns-clause-answers : goal.returns-clause-answers
unfolding answer
returns-clause-answers g c =
    same_reply _ _ _ _ _ _ _ _ (ap plan_table (c.as_slice.ensures ∙ c.in_ok-listed.ensures.items ∙ ap items_of c.plan.ensures)) c.put_answer.ensures.answers

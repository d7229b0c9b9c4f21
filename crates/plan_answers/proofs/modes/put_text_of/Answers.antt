use Rattle.std.proofs.Common.{◌∙◌, ◌≡◌, ◌∷◌, ◌++◌, [], ap, false, length, List, not, refl, subst, sym, true, ◌<◌, ℕ}
use Rattle.plan_spec.specs.Plan.{items_of}
use Rattle.report_spec.specs.Output.{mode_records}
use Rattle.report_spec.specs.Tables.{plan_table}
use Rattle.plan_answers.proofs.Asked.{on_fault}
use Rattle.plan_answers.proofs.Printed.{nothing}
use Rattle.plan_answers.proofs.PlanTables.{same_rows}
use Rattle.plan_answers.proofs.modes.put_text_of.Goals as goal

pub returns-in_err-listed-clause-answers : goal.returns-in_err-listed-clause-answers
returns-in_err-listed-clause-answers g c =
    on_fault _ _ _ _ _ c.from_residual.result _ c.from_residual.ensures.1 (nothing _ _)

pub returns-clause-answers : goal.returns-clause-answers
unfolding mode_records
returns-clause-answers g c =
    same_rows c.args.form (g.O.Sink.written c.args.out.now) (g.O.Sink.written c.put_one.new.out) _ _ _ c.put_one.result (ap plan_table (c.as_slice.ensures ∙ c.in_ok-listed.ensures.items ∙ ap items_of c.plan.ensures)) c.put_one.ensures.answers

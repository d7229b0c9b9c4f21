use Rattle.std.proofs.Common.{◌∙◌, ◌≡◌, ◌∷◌, ◌++◌, [], ap, false, length, List, not, refl, subst, sym, true, ◌<◌, ℕ}
use Rattle.report_spec.specs.Replies.{ok_record}
use Rattle.plan_answers.proofs.Asked.{on_fault}
use Rattle.plan_answers.proofs.Printed.{one_begun}
use Rattle.plan_answers.proofs.replies.put_done.Goals as goal

pub returns-in_err-put_ok-clause-answers : goal.returns-in_err-put_ok-clause-answers
returns-in_err-put_ok-clause-answers g c =
    on_fault c.args.form (g.O.Sink.written c.args.out.now) (g.O.Sink.written c.put_ok.new.out) (ok_record c.args.number ∷ []) false c.from_residual.result _ c.from_residual.ensures.1
    (one_begun _ _ c.args.form (ok_record c.args.number) c.in_err-put_ok.ensures.prefix)

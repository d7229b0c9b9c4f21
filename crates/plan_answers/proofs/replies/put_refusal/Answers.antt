use Rattle.std.proofs.Common.{◌∙◌, ◌≡◌, ◌∷◌, ◌++◌, [], ap, false, length, List, not, refl, subst, sym, true, ◌<◌, ℕ}
use Rattle.report_spec.specs.Replies.{refused_record}
use Rattle.plan_answers.proofs.Asked.{on_fault}
use Rattle.plan_answers.proofs.Printed.{one_begun}
use Rattle.plan_answers.proofs.replies.put_refusal.Goals as goal

pub returns-in_err-put_refused-clause-answers : goal.returns-in_err-put_refused-clause-answers
returns-in_err-put_refused-clause-answers g c =
    on_fault c.args.form (g.O.Sink.written c.args.out.now) (g.O.Sink.written c.put_refused.new.out) (refused_record c.args.number c.args.reason.now ∷ []) true c.from_residual.result _ c.from_residual.ensures.1
    (one_begun _ _ c.args.form (refused_record c.args.number c.args.reason.now) c.in_err-put_refused.ensures.prefix)

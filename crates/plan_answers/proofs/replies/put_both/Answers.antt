use Rattle.plan_answers.proofs.Asked.{on_fault}
use Rattle.plan_answers.proofs.Printed.{before_second, in_second}
use Rattle.plan_answers.proofs.replies.put_both.Goals as goal

pub returns-in_err-put-clause-answers : goal.returns-in_err-put-clause-answers
returns-in_err-put-clause-answers g c =
    on_fault _ _ _ _ _ c.from_residual.result _ c.from_residual.ensures.1 (before_second _ _ _ _ _ c.in_err-put.ensures.prefix)

pub returns-in_err-put-2-clause-answers : goal.returns-in_err-put-2-clause-answers
returns-in_err-put-2-clause-answers g c =
    on_fault _ _ _ _ _ c.from_residual-in_err-put-2.result _ c.from_residual-in_err-put-2.ensures.1 (in_second _ _ _ _ _ _ c.in_ok-put.ensures.all c.in_err-put-2.ensures.prefix)

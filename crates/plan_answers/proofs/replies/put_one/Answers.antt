use Rattle.plan_answers.proofs.Asked.{on_fault}
use Rattle.plan_answers.proofs.replies.put_one.Goals as goal

pub returns-in_err-put-clause-answers : goal.returns-in_err-put-clause-answers
returns-in_err-put-clause-answers g c =
    on_fault _ _ _ _ _ c.from_residual.result _ c.from_residual.ensures.1 c.in_err-put.ensures.prefix

use Rattle.std.proofs.Common.{◌≡◌, map, subst}
use Rattle.std.specs.Prelude.{IfOk}
use Rattle.sight_spec.specs.Sweep.{answers_to}
use Rattle.sight_sweep.specs.Answers.{value_of}
use Rattle.sight_sweep.proofs.Replies.{given_values}
use Rattle.sight_sweep.proofs.answering.sweep.Goals as goal

pub returns-clause-answers : goal.returns-clause-answers
returns-clause-answers c =
    subst (λ scene. IfOk c.answers_by.result
    (λ answers. map value_of answers.items ≡ answers_to scene c.args.p c.args.targets.now)) c.in-Ok.ensures
    (given_values c.in-Ok.table c.args.p c.args.targets.now c.answers_by.result c.answers_by.ensures)

use Rattle.plan_undo.proofs.Undoing.{undoing_a_change, redoing_it}
use Rattle.plan_undo.proofs.laws.undoing_gives_back.Goals as goal

pub returns-clause-undone : goal.returns-clause-undone
returns-clause-undone c = undoing_a_change

pub returns-clause-redone : goal.returns-clause-redone
returns-clause-redone c = redoing_it

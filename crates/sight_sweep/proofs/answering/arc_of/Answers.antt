use Rattle.sight_sweep.proofs.Replies.{in_later, in_whole}
use Rattle.sight_sweep.proofs.answering.arc_of.Goals as goal

pub returns-then-are_later-clause-all : goal.returns-then-are_later-clause-all
returns-then-are_later-clause-all c = in_later c.args.p c.args.targets.now (c.are_later.ensures c.if-are_later.true)

pub returns-else-are_later-clause-all : goal.returns-else-are_later-clause-all
returns-else-are_later-clause-all c = in_whole c.args.p c.args.targets.now

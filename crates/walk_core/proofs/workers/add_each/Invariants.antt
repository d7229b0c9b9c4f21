use Rattle.walk_core.proofs.Parts.{Adding}
use Rattle.walk_core.proofs.workers.add_each.Given as goal

abbrev pub invariant-loop-node : goal.invariant-loop-node
invariant-loop-node l = Adding l.node l.others l.fn.visits l.visits

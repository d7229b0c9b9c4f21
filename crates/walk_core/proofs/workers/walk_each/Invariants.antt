use Rattle.walk_core.proofs.Parts.{Counting}
use Rattle.walk_core.proofs.workers.walk_each.Given as goal

abbrev pub invariant-loop-walker : goal.invariant-loop-walker
invariant-loop-walker l = Counting l.lists l.starts l.spec l.first l.walker l.visits.items

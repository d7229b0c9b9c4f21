use Rattle.plan_watch.proofs.Each.{IsReadied}
use Rattle.desk_core.proofs.telling.ready_all.Given as goal

abbrev pub invariant-loop-k : goal.invariant-loop-k
invariant-loop-k g l = IsReadied g.W.Watch.room g.W.Watch.list g.W.Watch.is_set l.initial.watchers.items l.watchers.items l.k

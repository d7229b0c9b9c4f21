use Rattle.plan_watch.proofs.Each.{IsTold}
use Rattle.desk_core.proofs.telling.note_all.Given as goal

abbrev pub invariant-loop-k : goal.invariant-loop-k
invariant-loop-k g l = IsTold g.W.Watch.room g.W.Watch.list g.W.Watch.is_set l.note l.initial.watchers.items l.watchers.items l.k

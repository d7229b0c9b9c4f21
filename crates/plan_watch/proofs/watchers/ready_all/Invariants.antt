use Rattle.plan_watch.proofs.Each.{IsReadied}
use Rattle.plan_watch.proofs.watchers.ready_all.Given as goal

abbrev pub invariant-loop-k : goal.invariant-loop-k
invariant-loop-k g l =
    IsReadied
    (λ b. (goal.Watch-dyn g (b.vtable, b.value)).room b.value)
    (λ b. (goal.Watch-dyn g (b.vtable, b.value)).list b.value)
    (λ b. (goal.Watch-dyn g (b.vtable, b.value)).is_set b.value)
    l.initial.watchers.items l.watchers.items l.k

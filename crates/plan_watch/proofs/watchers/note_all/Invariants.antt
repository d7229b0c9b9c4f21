use Rattle.plan_watch.proofs.Each.{IsTold}
use Rattle.plan_watch.proofs.watchers.note_all.Given as goal

abbrev pub invariant-loop-k : goal.invariant-loop-k
invariant-loop-k g l =
    IsTold
    (λ b. (goal.Watch-dyn g (b.vtable, b.value)).room b.value)
    (λ b. (goal.Watch-dyn g (b.vtable, b.value)).list b.value)
    (λ b. (goal.Watch-dyn g (b.vtable, b.value)).is_set b.value)
    l.note l.initial.watchers.items l.watchers.items l.k

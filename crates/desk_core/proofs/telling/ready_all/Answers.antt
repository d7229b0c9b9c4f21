use Rattle.std.proofs.Common.{refl, arith}
use Rattle.plan_watch.proofs.Each.{same_after, readied_on, all_readied, count_readied}
use Rattle.desk_core.proofs.telling.ready_all.Goals as goal

pub loop-k-preserved : goal.loop-k-preserved
loop-k-preserved g c =
    readied_on _ _ _ c.args.watchers.now.items c.loop-k.watchers.items c.loop-k.k c.loop-k.invariant (omega (arith, c.loop-k-test.true, count_readied _ _ _ c.args.watchers.now.items c.loop-k.watchers.items c.loop-k.k c.loop-k.invariant))
    c.index_mut.result.now c.ready_one.new.watcher c.index_mut.ensures.value c.ready_one.ensures.room c.ready_one.ensures.list c.in_ok-ready_one.ensures.set

pub returns-in_err-ready_one-clause-rooms : goal.returns-in_err-ready_one-clause-rooms
returns-in_err-ready_one-clause-rooms g c =
    (same_after _ _ _ c.args.watchers.now.items c.loop-k.watchers.items c.loop-k.k c.loop-k.invariant
    c.index_mut.result.now c.ready_one.new.watcher c.index_mut.ensures.value c.ready_one.ensures.room c.ready_one.ensures.list).0

pub returns-in_err-ready_one-clause-lists : goal.returns-in_err-ready_one-clause-lists
returns-in_err-ready_one-clause-lists g c =
    (same_after _ _ _ c.args.watchers.now.items c.loop-k.watchers.items c.loop-k.k c.loop-k.invariant
    c.index_mut.result.now c.ready_one.new.watcher c.index_mut.ensures.value c.ready_one.ensures.room c.ready_one.ensures.list).1

pub loop-k-init : goal.loop-k-init
loop-k-init g c = record { rooms = refl; lists = refl; set = λ j d below. absurd (omega arith) }

pub returns-clause-rooms : goal.returns-clause-rooms
returns-clause-rooms g c = c.loop-k.invariant.rooms

pub returns-clause-lists : goal.returns-clause-lists
returns-clause-lists g c = c.loop-k.invariant.lists

pub returns-clause-set : goal.returns-clause-set
returns-clause-set g c =
    all_readied _ _ _ c.args.watchers.now.items c.loop-k.watchers.items c.loop-k.k c.loop-k.invariant
    (omega (arith, c.loop-k-test.false, count_readied _ _ _ c.args.watchers.now.items c.loop-k.watchers.items c.loop-k.k c.loop-k.invariant))

use Rattle.std.proofs.Common.{refl, arith}
use Rattle.plan_watch.proofs.Each.{still_set, told_on, all_told, count_told}
use Rattle.desk_core.proofs.telling.note_all.Goals as goal

pub note_one-requires : goal.note_one-requires
note_one-requires g c =
    still_set _ _ _ c.args.note.now c.args.watchers.now.items c.loop-k.watchers.items c.loop-k.k c.loop-k.invariant c.requires (omega (arith, c.loop-k-test.true, count_told _ _ _ c.args.note.now c.args.watchers.now.items c.loop-k.watchers.items c.loop-k.k c.loop-k.invariant))
    c.index_mut.result.now c.index_mut.ensures.value

pub loop-k-preserved : goal.loop-k-preserved
loop-k-preserved g c =
    told_on _ _ _ c.args.note.now c.args.watchers.now.items c.loop-k.watchers.items c.loop-k.k c.loop-k.invariant (omega (arith, c.loop-k-test.true, count_told _ _ _ c.args.note.now c.args.watchers.now.items c.loop-k.watchers.items c.loop-k.k c.loop-k.invariant))
    c.index_mut.result.now c.note_one.new.watcher c.index_mut.ensures.value c.note_one.ensures.room c.note_one.ensures.list

pub loop-k-init : goal.loop-k-init
loop-k-init g c = record { rest = refl; rooms = refl; told = refl }

pub returns-clause-rooms : goal.returns-clause-rooms
returns-clause-rooms g c = c.loop-k.invariant.rooms

pub returns-clause-lists : goal.returns-clause-lists
returns-clause-lists g c =
    all_told _ _ _ c.args.note.now c.args.watchers.now.items c.loop-k.watchers.items c.loop-k.k c.loop-k.invariant
    (omega (arith, c.loop-k-test.false, count_told _ _ _ c.args.note.now c.args.watchers.now.items c.loop-k.watchers.items c.loop-k.k c.loop-k.invariant))

use Rattle.std.proofs.Common.{◌-◌, arith}
use Rattle.sight_sweep.proofs.Counting.{count_none, count_some}
use Rattle.sight_sweep.proofs.row.is_count.Goals as goal

pub returns-then-count-eq0 : goal.returns-then-count-eq0
returns-then-count-eq0 c h = count_none c.args.sectors.now c.args.place c.args.count c.requires.order
    c.if-count-eq0.true (c.is_beyond.ensures c.if-not-is_beyond.false)

pub returns : goal.returns
returns c h = count_some c.args.sectors.now c.args.place c.args.count (c.args.count - 1) c.requires.order
    (let some = c.if-count-eq0.false in omega (arith, some)) c.if-sectors-count.false
    (c.is_beyond.ensures c.if-not-is_beyond.false) (c.is_reached.ensures h)

use Rattle.std.proofs.Common.{◌<◌, ◌+◌, arith, refl, sym, subst, get_or}
use Rattle.sight_spec.specs.Isovist.{no_segment}
use Rattle.sight_sweep.specs.Tables.{HasEnds}
use Rattle.sight_sweep.proofs.Ends.{no_ends, both_ends, all_ends}
use Rattle.sight_sweep.proofs.around.line_ends.Goals as goal

pub loop-k-init : goal.loop-k-init
loop-k-init c = subst (HasEnds c.args.lines.now 0) (sym c.new-ends.ensures.items) (no_ends c.args.lines.now)

pub loop-k-preserved : goal.loop-k-preserved
loop-k-preserved c =
    let small : c.loop-k.k < 2048 = omega arith in
    subst (HasEnds c.args.lines.now (c.loop-k.k + 1)) (sym c.in_ok-push_ends.ensures)
    (both_ends c.args.lines.now c.loop-k.k
    (get_or c.args.lines.now c.loop-k.k no_segment) c.loop-k.ends.items small c.loop-k-test.true refl c.loop-k.invariant)

pub returns : goal.returns
returns c = all_ends c.args.lines.now c.loop-k.k c.loop-k.ends.items c.loop-k-test.false c.loop-k.invariant

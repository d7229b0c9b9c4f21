use Rattle.std.proofs.Common.{◌≡◌, ◌+◌, arith, refl, sym, subst, get_or, length}
use Rattle.sweep_laws.specs.Groups.{no_corner}
use Rattle.sight_sweep.specs.Tables.{AreRanges}
use Rattle.sight_sweep.proofs.Ends.{no_ranges, one_range, all_ranges}
use Rattle.sight_sweep.proofs.around.ranges_of.Goals as goal

pub loop-k-init : goal.loop-k-init
loop-k-init c = subst (AreRanges c.args.ends.now c.args.corners.now 0) (sym c.new-ranges.ensures.items)
    (no_ranges c.args.ends.now c.args.corners.now)

pub loop-k-preserved : goal.loop-k-preserved
loop-k-preserved c =
    subst (AreRanges c.args.ends.now c.args.corners.now (c.loop-k.k + 1)) (sym c.in_ok-push.ensures.pushed)
    (one_range c.args.ends.now c.args.corners.now c.loop-k.k
    (get_or c.args.corners.now c.loop-k.k no_corner) c.range_at.result c.loop-k.ranges.items refl c.range_at.ensures
    c.loop-k.invariant)

pub returns : goal.returns
returns c =
    let all : c.loop-k.k ≡ length c.args.corners.now = omega arith in
    all_ranges c.args.ends.now c.args.corners.now c.loop-k.k c.loop-k.ranges.items all c.loop-k.invariant

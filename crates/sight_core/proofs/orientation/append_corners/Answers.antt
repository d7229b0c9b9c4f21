use Rattle.std.proofs.Common.{arith, ap, ◌++◌}
use Rattle.sight_core.specs.Turned.{directed_corners}
use Rattle.sight_core.proofs.Along.{corners_all, no_points, first_corner}
use Rattle.sight_core.proofs.orientation.append_corners.Goals as goal

pub returns-in_default : goal.returns-in_default
returns-in_default c = no_points c.args.way c.args.points.now c.args.corners.now.items (omega (arith, c.in_default.ensures))

pub loop-k-init : goal.loop-k-init
loop-k-init c =
    ap (λ t. c.args.corners.now.items ++ directed_corners c.has_orientation-keep.result t)
    (first_corner c.args.points.now c.edge-before.result c.in-Some.last (omega (arith, c.in-Some.ensures)) c.edge-before.ensures.next)

pub returns : goal.returns
returns c = corners_all c.args.way c.has_orientation-keep.result c.args.points.now c.loop-k.k c.loop-k.before c.args.corners.now.items c.loop-k.corners.items c.has_orientation-keep.ensures c.loop-k-test.false c.loop-k.invariant

use Rattle.sight_core.proofs.Along.{walls_all}
use Rattle.sight_core.proofs.orientation.append_walls.Goals as goal

pub returns : goal.returns
returns c = walls_all c.args.way c.has_orientation-keep.result c.args.points.now c.loop-k.k c.args.walls.now.items c.loop-k.walls.items c.has_orientation-keep.ensures c.loop-k-test.false c.loop-k.invariant

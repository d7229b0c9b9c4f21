use Rattle.std.proofs.Common.{arith}
use Rattle.sight_core.proofs.Sound.{obstacle_in_range}
use Rattle.sight_core.proofs.scene.walls_of.Goals as goal

pub append_walls-requires-in-loop-k : goal.append_walls-requires-in-loop-k
append_walls-requires-in-loop-k c =
    rw c.obstacle.ensures.points (obstacle_in_range c.args.plan.now c.loop-k.k c.obstacles-k-end.ensures.sound (omega (arith, c.obstacles-k-end.ensures.count)))

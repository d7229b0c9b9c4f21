use Rattle.std.proofs.Common.{arith}
use Rattle.sight_core.proofs.Sound.{obstacle_in_range}
use Rattle.sight_core.proofs.scene.append_obstacles.Goals as goal

pub append_corners-requires : goal.append_corners-requires
append_corners-requires c =
    rw c.obstacle.ensures.points (obstacle_in_range c.args.plan.now c.loop-k.k c.obstacles-k-end.ensures.sound (omega (arith, c.obstacles-k-end.ensures.count)))

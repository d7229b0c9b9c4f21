use Rattle.std.proofs.Common.{arith}
use Rattle.sight_core.proofs.Sound.{obstacle_in_range}
use Rattle.sight_core.proofs.openness.is_in_obstacle.Goals as goal

pub inside-requires-clause-points_in : goal.inside-requires-clause-points_in
inside-requires-clause-points_in c =
    rw c.obstacle.ensures.points (obstacle_in_range c.args.plan.now c.loop-k.k c.obstacles-k-end.ensures.sound (omega (arith, c.obstacles-k-end.ensures.count)))

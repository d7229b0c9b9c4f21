use Rattle.std.proofs.Common.{arith}
use Rattle.plan_laws.proofs.Ranges.{sound_limits}
use Rattle.plan_back.proofs.Few.{few_before_obstacles}
use Rattle.plan_back.proofs.placing.items_before_screens.Goals as goal

pub overflow_add-result : goal.overflow_add-result
overflow_add-result c =
    let limits = sound_limits c.args.plan.now c.obstacles.ensures.sound in
    omega (arith, limits.obstacles, few_before_obstacles c.args.plan.now, c.obstacles.ensures.count, c.items_before_obstacles.ensures)

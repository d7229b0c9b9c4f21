use Rattle.std.proofs.Common.{arith}
use Rattle.plan_laws.proofs.Ranges.{sound_limits}
use Rattle.plan_back.proofs.inverting.back_of.Goals as goal

pub overflow_cast-result : goal.overflow_cast-result
overflow_cast-result c =
    let limits = sound_limits c.args.plan.now c.obstacles.ensures.sound in
    omega (arith, limits.obstacles, c.obstacles.ensures.count)

pub overflow_cast-result-in-AddScreen : goal.overflow_cast-result-in-AddScreen
overflow_cast-result-in-AddScreen c =
    let limits = sound_limits c.args.plan.now c.screens.ensures.sound in
    omega (arith, limits.screens, c.screens.ensures.count)

pub overflow_cast-result-in-AddRoute : goal.overflow_cast-result-in-AddRoute
overflow_cast-result-in-AddRoute c =
    let limits = sound_limits c.args.plan.now c.routes.ensures.sound in
    omega (arith, limits.routes, c.routes.ensures.count)

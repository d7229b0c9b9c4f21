use Rattle.std.proofs.Common.{arith}
use Rattle.plan_laws.proofs.Ranges.{sound_limits}
use Rattle.plan_back.proofs.inverting.put_route.Goals as goal

pub overflow_cast-result : goal.overflow_cast-result
overflow_cast-result c =
    let limits = sound_limits c.args.plan.now c.routes-k-end.ensures.sound in
    omega (arith, limits.routes, c.routes-k-end.ensures.count, c.loop-k-test.true)

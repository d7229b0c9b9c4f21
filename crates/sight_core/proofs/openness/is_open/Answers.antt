use Rattle.sight_core.proofs.Sound.{outer_in_range}
use Rattle.sight_core.proofs.openness.is_open.Goals as goal

pub on_border-requires-clause-points_in : goal.on_border-requires-clause-points_in
on_border-requires-clause-points_in c = rw c.outer-outer.ensures.points (outer_in_range c.args.plan.now c.outer-outer.ensures.sound)

pub inside-requires-clause-points_in : goal.inside-requires-clause-points_in
inside-requires-clause-points_in c = rw c.outer-outer.ensures.points (outer_in_range c.args.plan.now c.outer-outer.ensures.sound)

use Rattle.sight_core.proofs.Sound.{outer_in_range}
use Rattle.sight_core.proofs.scene.outer_of.Goals as goal

pub returns-clause-in_range : goal.returns-clause-in_range
returns-clause-in_range c = rw c.outer.ensures.points (outer_in_range c.args.plan.now c.outer.ensures.sound)

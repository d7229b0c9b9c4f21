use Rattle.sight_core.proofs.Counts.{few_walls}
use Rattle.sight_core.proofs.Seen.{walls-in_range}
use Rattle.sight_core.proofs.scene.Scene.walls.Goals as goal

pub returns-clause-in_range : goal.returns-clause-in_range
returns-clause-in_range c = rw c.deref.ensures.value (walls-in_range _ c.self.invariant)

pub returns-clause-at_most : goal.returns-clause-at_most
returns-clause-at_most c = rw c.deref.ensures.value (few_walls _ c.self.invariant)

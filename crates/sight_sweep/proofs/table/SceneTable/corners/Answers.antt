use Rattle.sight_core.proofs.Counts.{few_corners}
use Rattle.sight_core.proofs.Seen.{corners-in_range}
use Rattle.sight_sweep.proofs.table.SceneTable.corners.Goals as goal

pub returns-clause-in_range : goal.returns-clause-in_range
returns-clause-in_range c = rw c.deref.ensures.value (corners-in_range _ c.self.invariant.of_plan)

pub returns-clause-at_most : goal.returns-clause-at_most
returns-clause-at_most c = rw c.deref.ensures.value (few_corners _ c.self.invariant.of_plan)

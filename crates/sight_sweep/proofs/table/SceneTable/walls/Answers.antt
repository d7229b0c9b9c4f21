use Rattle.sight_core.proofs.Seen.{walls-in_range}
use Rattle.sight_sweep.proofs.table.SceneTable.walls.Goals as goal

pub returns-clause-in_range : goal.returns-clause-in_range
returns-clause-in_range c = rw c.deref.ensures.value (walls-in_range _ c.self.invariant.of_plan)

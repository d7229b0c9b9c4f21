use Rattle.std.proofs.Common.{rules}
use Rattle.sight_core.proofs.Nearest.{nearest_of_parts}
use Rattle.sight_core.proofs.stops.nearest_of.Goals as goal

pub returns-clause-first : goal.returns-clause-first
returns-clause-first c = rw (nearest_of_parts c.args.scene.now c.args.p c.args.d) (search rules)

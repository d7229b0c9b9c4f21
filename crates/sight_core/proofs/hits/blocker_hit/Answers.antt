use Rattle.std.proofs.Common.{rules}
use Rattle.sight_core.proofs.Widths.{across_is_turned}
use Rattle.sight_core.proofs.hits.blocker_hit.Goals as goal

pub wall_parameter-hit-requires-clause-turned : goal.wall_parameter-hit-requires-clause-turned
wall_parameter-hit-requires-clause-turned c = across_is_turned c.args.p c.args.d c.args.wall.now (search rules)

use Rattle.std.proofs.Common.{rules}
use Rattle.sight_core.proofs.Nearest.{nearest_line_of_parts}
use Rattle.sight_core.proofs.stops.nearest_line_of.Goals as goal

pub returns : goal.returns
returns c = rw (nearest_line_of_parts c.args.scene.now c.args.p c.args.d) (search rules)

use Rattle.std.proofs.Common.{rules}
use Rattle.plane_spec.specs.Segments.{cross_properly}
use Rattle.exact_geom.proofs.segments.cross_properly.Goals as goal

pub returns-then-are_opposite : goal.returns-then-are_opposite
unfolding cross_properly
returns-then-are_opposite c = search rules

pub returns-else-are_opposite : goal.returns-else-are_opposite
unfolding cross_properly
returns-else-are_opposite c = search rules

use Rattle.std.proofs.Common.{rules}
use Rattle.plane_spec.specs.Fractions.{along}
use Rattle.exact_geom.proofs.rpoints.RPoint.along.Goals as goal

pub returns-clause-value : goal.returns-clause-value
unfolding along
returns-clause-value c = search rules

use Rattle.std.proofs.Common.{rules}
use Rattle.plane_spec.specs.Fractions.{value_order_of}
use Rattle.exact_geom.proofs.fractions.Frac.compare.Goals as goal

pub returns : goal.returns
unfolding value_order_of
returns c = search rules

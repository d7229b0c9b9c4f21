use Rattle.exact_geom.proofs.Along.{along_within}
use Rattle.exact_geom.proofs.rpoints.rpoints_are_small.Goals as goal

pub returns : goal.returns
returns c = along_within

use Rattle.exact_geom.proofs.Along.{along_alike, along_reduced}
use Rattle.exact_geom.proofs.rpoints.along_is_by_value.Goals as goal

pub returns : goal.returns
returns c = record { same = along_alike; of_reduced = along_reduced }

use Rattle.map_laws.proofs.MutualSight.{sight_turned}
use Rattle.sight_core.proofs.sight.sight_is_mutual.Goals as goal

pub returns : goal.returns
returns c = sight_turned

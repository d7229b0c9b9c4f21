use Rattle.sweep_laws.proofs.Sight.{sight_is}
use Rattle.sweep_laws.proofs.the_first_and_the_nearest_corners_decide_sight.Goals as goal

pub returns : goal.returns
returns c = sight_is

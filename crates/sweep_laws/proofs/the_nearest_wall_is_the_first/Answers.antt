use Rattle.sweep_laws.proofs.NearWall.{near_wall_is}
use Rattle.sweep_laws.proofs.the_nearest_wall_is_the_first.Goals as goal

pub returns : goal.returns
returns c = near_wall_is

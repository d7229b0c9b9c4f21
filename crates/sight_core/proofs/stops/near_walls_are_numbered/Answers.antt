use Rattle.sight_core.proofs.NearWall.{number_is_below}
use Rattle.sight_core.proofs.stops.near_walls_are_numbered.Goals as goal

pub returns : goal.returns
returns c = number_is_below

use Rattle.station_laws.proofs.Ends.{corners_at_ends}
use Rattle.station_laws.proofs.corners_stand_at_the_ends_of_walls.Goals as goal

pub returns : goal.returns
returns c = corners_at_ends

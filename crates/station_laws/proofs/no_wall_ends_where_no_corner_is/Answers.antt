use Rattle.station_laws.proofs.NoEnds.{no_ends_between}
use Rattle.station_laws.proofs.no_wall_ends_where_no_corner_is.Goals as goal

pub returns : goal.returns
returns c = no_ends_between

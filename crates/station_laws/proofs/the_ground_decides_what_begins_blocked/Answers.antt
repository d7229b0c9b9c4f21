use Rattle.station_laws.proofs.Law.{ground_decides}
use Rattle.station_laws.proofs.the_ground_decides_what_begins_blocked.Goals as goal

pub returns : goal.returns
returns c = ground_decides

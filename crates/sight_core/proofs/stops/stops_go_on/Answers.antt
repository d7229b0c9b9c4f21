use Rattle.sight_core.proofs.Onward.{stop_onward}
use Rattle.sight_core.proofs.stops.stops_go_on.Goals as goal

pub returns : goal.returns
returns c = stop_onward

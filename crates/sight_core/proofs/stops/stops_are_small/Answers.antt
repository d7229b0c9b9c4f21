use Rattle.sight_core.proofs.StopBounds.{stop_is_ahead, stop_is_small}
use Rattle.sight_core.proofs.stops.stops_are_small.Goals as goal

pub returns-clause-parts_bounded : goal.returns-clause-parts_bounded
returns-clause-parts_bounded c = stop_is_small

pub returns-clause-ahead : goal.returns-clause-ahead
returns-clause-ahead c = stop_is_ahead

use Rattle.std.proofs.Common.{rules}
use Rattle.sight_spec.specs.Stops.{stop_of}
use Rattle.sight_core.proofs.StopBounds.{found_is_ahead}
use Rattle.sight_core.proofs.stops.stop.Goals as goal

pub returns-clause-least : goal.returns-clause-least
unfolding stop_of
returns-clause-least c = search rules

pub returns-clause-ahead : goal.returns-clause-ahead
returns-clause-ahead c = found_is_ahead _ _ _ _ c.nearest_of.ensures.of_plan c.requires.p_in c.requires.d_in (returns-clause-least c)

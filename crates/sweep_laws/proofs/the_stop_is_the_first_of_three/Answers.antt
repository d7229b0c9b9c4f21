use Rattle.sweep_laws.proofs.Stops.{stop_is}
use Rattle.sweep_laws.proofs.the_stop_is_the_first_of_three.Goals as goal

pub returns : goal.returns
returns c = stop_is

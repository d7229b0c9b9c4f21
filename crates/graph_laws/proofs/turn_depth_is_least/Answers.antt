use Rattle.graph_laws.proofs.Turns.{one_turn_depth_each, least_turn_depth}
use Rattle.graph_laws.proofs.turn_depth_is_least.Goals as goal

pub returns-clause-one_each : goal.returns-clause-one_each
returns-clause-one_each c = one_turn_depth_each

pub returns-clause-listed : goal.returns-clause-listed
returns-clause-listed c = least_turn_depth

use Rattle.route_laws.proofs.Turns.{depth_at_most, listed_at_most}
use Rattle.route_laws.proofs.a_turn_depth_is_bounded.Goals as goal

pub returns-clause-depth : goal.returns-clause-depth
returns-clause-depth c = depth_at_most

pub returns-clause-listed : goal.returns-clause-listed
returns-clause-listed c = listed_at_most

use Rattle.route_laws.proofs.Turns.{turn_at_most}
use Rattle.route_laws.proofs.a_turn_is_at_most_sixteen.Goals as goal

pub returns : goal.returns
returns c = turn_at_most

use Rattle.graph_laws.proofs.Turns.{same_turn_depth}
use Rattle.graph_laws.proofs.turn_depth_is_unique.Goals as goal

pub returns : goal.returns
returns c = same_turn_depth

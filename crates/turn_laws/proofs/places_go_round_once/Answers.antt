use Rattle.turn_laws.proofs.Places.{half_turn, whole_turn}
use Rattle.turn_laws.proofs.places_go_round_once.Goals as goal

pub returns-clause-half : goal.returns-clause-half
returns-clause-half c = half_turn

pub returns-clause-whole : goal.returns-clause-whole
returns-clause-whole c = whole_turn

use Rattle.turn_laws.proofs.Places.{place_tells}
use Rattle.turn_laws.proofs.places_keep_the_order_of_directions.Goals as goal

pub returns : goal.returns
returns c = place_tells

use Rattle.rectangle_laws.proofs.Simple.{rectangle_is_simple}
use Rattle.rectangle_laws.proofs.a_box_is_a_simple_polygon.Goals as goal

pub returns : goal.returns
returns c = rectangle_is_simple

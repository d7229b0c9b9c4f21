use Rattle.side_laws.proofs.Law.{sides_of_simple}
use Rattle.side_laws.proofs.each_side_of_a_simple_polygon_has_one_winding.Goals as goal

pub returns : goal.returns
returns c = sides_of_simple

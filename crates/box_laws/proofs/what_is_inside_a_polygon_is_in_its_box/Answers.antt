use Rattle.box_laws.proofs.Within.{inside_in}
use Rattle.box_laws.proofs.what_is_inside_a_polygon_is_in_its_box.Goals as goal

pub returns : goal.returns
returns c = inside_in

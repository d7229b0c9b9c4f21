use Rattle.box_laws.proofs.Held.{held_in}
use Rattle.box_laws.proofs.the_box_of_points_holds_them.Goals as goal

pub returns : goal.returns
returns c = held_in

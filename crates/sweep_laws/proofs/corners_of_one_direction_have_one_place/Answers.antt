use Rattle.sweep_laws.proofs.Grouped.{stands_where}
use Rattle.sweep_laws.proofs.corners_of_one_direction_have_one_place.Goals as goal

pub returns : goal.returns
returns c = stands_where

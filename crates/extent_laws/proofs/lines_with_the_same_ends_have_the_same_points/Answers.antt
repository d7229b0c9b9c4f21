use Rattle.extent_laws.proofs.SameLines.{on_extents_alike}
use Rattle.extent_laws.proofs.lines_with_the_same_ends_have_the_same_points.Goals as goal

pub returns : goal.returns
returns c = on_extents_alike

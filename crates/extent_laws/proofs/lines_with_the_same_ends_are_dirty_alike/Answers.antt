use Rattle.extent_laws.proofs.SameLines.{dirty_alike}
use Rattle.extent_laws.proofs.lines_with_the_same_ends_are_dirty_alike.Goals as goal

pub returns : goal.returns
returns c = dirty_alike

use Rattle.extent_laws.proofs.SameLines.{dirty_with_pair}
use Rattle.extent_laws.proofs.the_line_of_a_dirty_pair_is_dirty.Goals as goal

pub returns : goal.returns
returns c = dirty_with_pair

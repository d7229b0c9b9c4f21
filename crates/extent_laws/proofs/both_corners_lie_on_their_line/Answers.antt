use Rattle.extent_laws.proofs.SameLines.{first_on_extent, second_on_extent}
use Rattle.extent_laws.proofs.both_corners_lie_on_their_line.Goals as goal

pub returns-clause-first : goal.returns-clause-first
returns-clause-first c = first_on_extent

pub returns-clause-second : goal.returns-clause-second
returns-clause-second c = second_on_extent

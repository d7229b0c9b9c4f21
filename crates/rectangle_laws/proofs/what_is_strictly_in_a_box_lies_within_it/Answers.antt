use Rattle.rectangle_laws.proofs.Within.{strictly_within}
use Rattle.rectangle_laws.proofs.what_is_strictly_in_a_box_lies_within_it.Goals as goal

pub returns : goal.returns
returns c = strictly_within

use Rattle.box_laws.proofs.Blocking.{first_meets, second_meets}
use Rattle.box_laws.proofs.a_segment_that_ends_in_a_box_meets_it.Goals as goal

pub returns-clause-first : goal.returns-clause-first
returns-clause-first c = first_meets

pub returns-clause-second : goal.returns-clause-second
returns-clause-second c = second_meets

use Rattle.meet_laws.proofs.Stretches.{meet_left, meet_right}
use Rattle.meet_laws.proofs.segments_that_cross_reach_the_crossing.Goals as goal

pub returns-clause-left : goal.returns-clause-left
returns-clause-left c = meet_left

pub returns-clause-right : goal.returns-clause-right
returns-clause-right c = meet_right

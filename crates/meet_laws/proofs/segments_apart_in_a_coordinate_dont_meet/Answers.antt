use Rattle.meet_laws.proofs.Stretches.{no_meeting_in_x, no_meeting_in_y}
use Rattle.meet_laws.proofs.segments_apart_in_a_coordinate_dont_meet.Goals as goal

pub returns-clause-x : goal.returns-clause-x
returns-clause-x c = no_meeting_in_x

pub returns-clause-y : goal.returns-clause-y
returns-clause-y c = no_meeting_in_y

use Rattle.std.proofs.Common.{Some}
use Rattle.box_laws.proofs.Blocking.{crossed_meets, entered_meets, corner_meets}
use Rattle.box_laws.proofs.what_blocks_a_segment_in_a_box_makes_it_meet_the_box.Goals as goal

pub returns-clause-crossed : goal.returns-clause-crossed
returns-clause-crossed c = λ p q w area. crossed_meets p q w (Some area)

pub returns-clause-entered : goal.returns-clause-entered
returns-clause-entered c = λ p q w area. entered_meets p q w (Some area)

pub returns-clause-corner : goal.returns-clause-corner
returns-clause-corner c = λ p q c area. corner_meets p q c (Some area)

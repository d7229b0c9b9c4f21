use Rattle.line_laws.proofs.Laws.{old_line_stays}
use Rattle.line_laws.proofs.an_old_line_that_misses_the_box_stays.Goals as goal

pub returns : goal.returns
returns c = old_line_stays

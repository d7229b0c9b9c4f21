use Rattle.line_laws.proofs.Laws.{new_line_stood}
use Rattle.line_laws.proofs.a_new_line_that_misses_the_box_was_there.Goals as goal

pub returns : goal.returns
returns c = new_line_stood

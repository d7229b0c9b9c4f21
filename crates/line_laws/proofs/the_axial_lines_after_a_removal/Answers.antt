use Rattle.line_laws.proofs.Laws.{lines_after_removal}
use Rattle.line_laws.proofs.the_axial_lines_after_a_removal.Goals as goal

pub returns : goal.returns
returns c = lines_after_removal

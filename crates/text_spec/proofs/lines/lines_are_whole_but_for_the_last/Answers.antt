use Rattle.text_spec.proofs.WholeLines.{whole_and_unended}
use Rattle.text_spec.proofs.lines.lines_are_whole_but_for_the_last.Goals as goal

pub returns : goal.returns
returns c = whole_and_unended

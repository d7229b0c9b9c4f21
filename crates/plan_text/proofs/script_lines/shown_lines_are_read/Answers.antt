use Rattle.plan_text.proofs.ShownLines.{shown_is_read, long_is_refused}
use Rattle.plan_text.proofs.script_lines.shown_lines_are_read.Goals as goal

pub returns-clause-shown : goal.returns-clause-shown
returns-clause-shown c = shown_is_read

pub returns-clause-long : goal.returns-clause-long
returns-clause-long c = long_is_refused

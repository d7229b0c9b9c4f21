use Rattle.desk_text.proofs.ShownAtDesk.{shown_is_read, long_is_refused}
use Rattle.desk_text.proofs.law.desk_lines_are_read.Goals as goal

pub returns-clause-shown : goal.returns-clause-shown
returns-clause-shown c = shown_is_read

pub returns-clause-long : goal.returns-clause-long
returns-clause-long c = long_is_refused

use Rattle.meet_laws.proofs.Along.{along_is_at, before_is_at, beyond_is_at, second_is_at}
use Rattle.meet_laws.proofs.along_is_on_its_line.Goals as goal

pub returns-clause-along : goal.returns-clause-along
returns-clause-along c = along_is_at

pub returns-clause-before : goal.returns-clause-before
returns-clause-before c = before_is_at

pub returns-clause-beyond : goal.returns-clause-beyond
returns-clause-beyond c = beyond_is_at

pub returns-clause-second : goal.returns-clause-second
returns-clause-second c = second_is_at

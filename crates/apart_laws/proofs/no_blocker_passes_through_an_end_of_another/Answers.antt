use Rattle.apart_laws.proofs.Through.{not_at_first, not_at_last}
use Rattle.apart_laws.proofs.no_blocker_passes_through_an_end_of_another.Goals as goal

pub returns-clause-from : goal.returns-clause-from
returns-clause-from c = not_at_first

pub returns-clause-to : goal.returns-clause-to
returns-clause-to c = not_at_last

use Rattle.trial_laws.proofs.Root.{root_is_enough, root_is_least}
use Rattle.trial_laws.proofs.there_are_no_more_cells_than_needed.Goals as goal

pub returns-clause-enough : goal.returns-clause-enough
returns-clause-enough c = root_is_enough

pub returns-clause-least : goal.returns-clause-least
returns-clause-least c = root_is_least

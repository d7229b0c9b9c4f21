use Rattle.round_laws.proofs.Without.{first_without}
use Rattle.round_laws.proofs.the_first_of_the_kept_is_the_first.Goals as goal

pub returns : goal.returns
returns c = first_without

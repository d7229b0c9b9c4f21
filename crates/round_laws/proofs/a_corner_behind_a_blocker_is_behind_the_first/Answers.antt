use Rattle.round_laws.proofs.Without.{behind_first}
use Rattle.round_laws.proofs.a_corner_behind_a_blocker_is_behind_the_first.Goals as goal

pub returns : goal.returns
returns c = behind_first

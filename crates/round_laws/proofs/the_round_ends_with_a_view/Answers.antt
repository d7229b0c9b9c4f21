use Rattle.round_laws.proofs.Endings.{round_ends}
use Rattle.round_laws.proofs.the_round_ends_with_a_view.Goals as goal

pub returns : goal.returns
returns c = round_ends

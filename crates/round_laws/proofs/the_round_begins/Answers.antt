use Rattle.round_laws.proofs.Sectors.{round_begins}
use Rattle.round_laws.proofs.the_round_begins.Goals as goal

pub returns : goal.returns
returns c = round_begins

use Rattle.round_laws.proofs.Sectors.{round_goes_on}
use Rattle.round_laws.proofs.the_round_goes_on_to_the_next_corner.Goals as goal

pub returns : goal.returns
returns c = round_goes_on

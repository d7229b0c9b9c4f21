use Rattle.round_laws.proofs.Sectors.{round_with_sector}
use Rattle.round_laws.proofs.a_corner_with_a_sector.Goals as goal

pub returns : goal.returns
returns c = round_with_sector

use Rattle.round_laws.proofs.Sectors.{round_without_sector}
use Rattle.round_laws.proofs.a_corner_without_a_sector.Goals as goal

pub returns : goal.returns
returns c = round_without_sector

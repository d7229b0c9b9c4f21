use Rattle.route_laws.proofs.Cuts.{all_crossings}
use Rattle.route_laws.proofs.crossings_have_small_parts.Goals as goal

pub returns : goal.returns
returns c = all_crossings

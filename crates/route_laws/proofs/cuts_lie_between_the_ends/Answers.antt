use Rattle.route_laws.proofs.Cuts.{all_cuts}
use Rattle.route_laws.proofs.cuts_lie_between_the_ends.Goals as goal

pub returns : goal.returns
returns c = all_cuts

use Rattle.route_laws.proofs.Cuts.{few_cuts}
use Rattle.route_laws.proofs.a_route_has_fewer_cuts_than_there_are_routes.Goals as goal

pub returns : goal.returns
returns c = few_cuts

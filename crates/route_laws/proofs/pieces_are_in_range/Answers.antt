use Rattle.route_laws.proofs.Pieces.{each_in_range}
use Rattle.route_laws.proofs.pieces_are_in_range.Goals as goal

pub returns : goal.returns
returns c = each_in_range

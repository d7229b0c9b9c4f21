use Rattle.route_laws.proofs.Pieces.{pieces_by_routes, few_pieces}
use Rattle.route_laws.proofs.there_are_few_pieces.Goals as goal

pub returns-clause-by_routes : goal.returns-clause-by_routes
returns-clause-by_routes c = pieces_by_routes

pub returns-clause-at_most : goal.returns-clause-at_most
returns-clause-at_most c = few_pieces

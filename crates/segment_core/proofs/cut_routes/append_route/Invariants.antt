use Rattle.std.proofs.Common.{◌≡◌, ◌++◌, [], ◌∷◌, drop, map}
use Rattle.plane_spec.specs.Fractions.{along, whole_point}
use Rattle.route_spec.specs.Routes.{pieces_between, pieces_of_route}
use Rattle.segment_core.proofs.cut_routes.append_route.Given as goal

abbrev pub invariant-loop-cut : goal.invariant-loop-cut
invariant-loop-cut l =
    l.pieces.items
    ++ pieces_between l.number l.direction l.from (map (along l.route.from l.direction)
    (drop l.cut-index l.cut-items) ++ whole_point l.route.to ∷ [])
    ≡ l.fn.pieces.items ++ pieces_of_route l.routes (l.number, l.route)

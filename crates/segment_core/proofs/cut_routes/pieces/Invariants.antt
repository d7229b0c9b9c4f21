use Rattle.std.proofs.Common.{◌≡◌, ◌++◌, drop}
use Rattle.std.specs.List.{flat_map, enumerate_from}
use Rattle.route_spec.specs.Routes.{pieces_of_route}
use Rattle.segment_core.proofs.cut_routes.pieces.Given as goal

abbrev pub invariant-loop-number : goal.invariant-loop-number
invariant-loop-number l =
    l.pieces.items ++ flat_map (pieces_of_route l.route-items) (enumerate_from l.number (drop l.number l.route-items))
    ≡ flat_map (pieces_of_route l.route-items) (enumerate_from 0 l.route-items)

use Rattle.std.proofs.Common.{◌≡◌, drop}
use Rattle.std.specs.List.{filter_map}
use Rattle.sight_spec.specs.Stops.{corner_hit}
use Rattle.sight_core.specs.Hits.{min_from}
use Rattle.sight_core.proofs.stops.nearest_corner.Given as goal

abbrev pub invariant-loop-corner : goal.invariant-loop-corner
invariant-loop-corner l =
    min_from l.fn.best (filter_map (corner_hit l.p l.d) l.corners) ≡ min_from l.nearest (filter_map (corner_hit l.p l.d) (drop l.corner-index l.corners))

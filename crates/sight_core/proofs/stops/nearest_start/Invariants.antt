use Rattle.std.proofs.Common.{◌≡◌, drop}
use Rattle.std.specs.List.{filter_map}
use Rattle.sight_spec.specs.Stops.{start_hit}
use Rattle.sight_core.specs.Hits.{min_from}
use Rattle.sight_core.proofs.stops.nearest_start.Given as goal

abbrev pub invariant-loop-wall : goal.invariant-loop-wall
invariant-loop-wall l =
    min_from l.fn.best (filter_map (start_hit l.p l.d) l.walls) ≡ min_from l.nearest (filter_map (start_hit l.p l.d) (drop l.wall-index l.walls))

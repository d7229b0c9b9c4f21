use Rattle.std.proofs.Common.{◌≡◌, drop}
use Rattle.std.specs.List.{filter_map}
use Rattle.sight_spec.specs.Stops.{blocker_hit}
use Rattle.sight_core.specs.Hits.{min_from}
use Rattle.sight_core.proofs.stops.nearest_blocker.Given as goal

abbrev pub invariant-loop-line : goal.invariant-loop-line
invariant-loop-line l =
    min_from l.fn.best (filter_map (blocker_hit l.p l.d) l.lines) ≡ min_from l.nearest (filter_map (blocker_hit l.p l.d) (drop l.line-index l.lines))

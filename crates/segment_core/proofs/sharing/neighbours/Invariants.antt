use Rattle.std.proofs.Common.{◌≡◌, ◌++◌, drop, map}
use Rattle.std.specs.List.{enumerate_from}
use Rattle.route_spec.specs.Routes.{neighbours_of}
use Rattle.segment_core.proofs.sharing.neighbours.Given as goal

abbrev pub invariant-loop-k : goal.invariant-loop-k
invariant-loop-k l = l.counts.items ++ map (neighbours_of l.pieces) (enumerate_from l.k (drop l.k l.pieces))
    ≡ map (neighbours_of l.pieces) (enumerate_from 0 l.pieces)

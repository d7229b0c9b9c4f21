use Rattle.std.proofs.Common.{◌≡◌, ◌++◌, map, drop}
use Rattle.sight_spec.specs.Isovist.{gaps_to, gaps_of}
use Rattle.isovist_core.specs.Headings.{step_of}
use Rattle.isovist_core.specs.Gaps.{direction_at, pair_of}
use Rattle.isovist_core.proofs.gaps.gaps_between.Given as goal

abbrev pub invariant-loop-k : goal.invariant-loop-k
invariant-loop-k l =
    map pair_of l.gaps.items ++ gaps_to (direction_at (map step_of l.headings) 0) (drop l.k (map step_of l.headings))
    ≡ gaps_of (map step_of l.headings)

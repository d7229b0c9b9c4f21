use Rattle.std.proofs.Common.{◌≡◌, ◌++◌, map, drop}
use Rattle.std.specs.List.{enumerate_from}
use Rattle.sight_spec.specs.Axial.{here_of}
use Rattle.axial_lines.proofs.corners.numbered_corners.Given as goal

abbrev pub invariant-loop-k : goal.invariant-loop-k
invariant-loop-k l =
    l.ends.items ++ enumerate_from l.k (map here_of (drop l.k l.corners)) ≡ enumerate_from 0 (map here_of l.corners)

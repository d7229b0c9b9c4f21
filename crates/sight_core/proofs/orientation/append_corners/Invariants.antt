use Rattle.std.proofs.Common.{◌≡◌, ◌++◌, drop}
use Rattle.plane_spec.specs.Polygons.{edges_of}
use Rattle.sight_spec.specs.Scene.{corners_after, corners_along}
use Rattle.sight_core.specs.Turned.{directed_corners}
use Rattle.sight_core.proofs.orientation.append_corners.Given as goal

abbrev pub invariant-loop-k : goal.invariant-loop-k
invariant-loop-k l =
    l.corners.items ++ directed_corners l.keep (corners_after l.before (drop l.k (edges_of l.points)))
    ≡ l.fn.corners.items ++ directed_corners l.keep (corners_along (edges_of l.points))

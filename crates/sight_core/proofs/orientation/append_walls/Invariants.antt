use Rattle.std.proofs.Common.{◌≡◌, ◌++◌, drop}
use Rattle.plane_spec.specs.Polygons.{edges_of}
use Rattle.sight_core.specs.Turned.{directed_edges}
use Rattle.sight_core.proofs.orientation.append_walls.Given as goal

abbrev pub invariant-loop-k : goal.invariant-loop-k
invariant-loop-k l = l.walls.items ++ directed_edges l.keep (drop l.k (edges_of l.points)) ≡ l.fn.walls.items ++ directed_edges l.keep (edges_of l.points)

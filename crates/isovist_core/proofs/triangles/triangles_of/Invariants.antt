use Rattle.std.proofs.Common.{◌≡◌, map, take}
use Rattle.isovist_core.specs.Sums.{triangle_of_run}
use Rattle.isovist_core.proofs.triangles.triangles_of.Given as goal

abbrev pub invariant-loop-run : goal.invariant-loop-run
invariant-loop-run l = l.triangles.items ≡ map (triangle_of_run l.scene l.p) (take l.run-index l.runs)

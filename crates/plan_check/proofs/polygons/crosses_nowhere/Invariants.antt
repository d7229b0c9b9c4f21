use Rattle.std.specs.Prelude.{◌≡◌, drop, length}
use Rattle.std.specs.List.{enumerate_from, list_all}
use Rattle.plane_spec.specs.Lists.{pairs}
use Rattle.plane_spec.specs.Polygons.{edges_of, may_be_edges, crosses_nowhere}
use Rattle.plan_check.proofs.polygons.crosses_nowhere.Given as goal

abbrev pub invariant-loop-i : goal.invariant-loop-i
invariant-loop-i l = crosses_nowhere l.points ≡ list_all (may_be_edges (length l.points)) (pairs (enumerate_from l.i (drop l.i (edges_of l.points))))

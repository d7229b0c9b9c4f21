use Rattle.std.specs.Prelude.{◌≡◌, drop}
use Rattle.std.specs.List.{list_any}
use Rattle.plane_spec.specs.Polygons.{edges_of, is_nothing, has_repeat}
use Rattle.plan_check.proofs.polygons.has_repeat.Given as goal

abbrev pub invariant-loop-k : goal.invariant-loop-k
invariant-loop-k l = has_repeat l.points ≡ list_any is_nothing (drop l.k (edges_of l.points))

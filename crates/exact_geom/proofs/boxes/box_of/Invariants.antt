use Rattle.std.proofs.Common.{◌≡◌, Some, drop}
use Rattle.plane_spec.specs.Boxes.{box_of_points, with_points}
use Rattle.exact_geom.proofs.boxes.box_of.Given as goal

abbrev pub invariant-loop-k : goal.invariant-loop-k
invariant-loop-k l = Some (with_points l.area (drop l.k l.points)) ≡ box_of_points l.points

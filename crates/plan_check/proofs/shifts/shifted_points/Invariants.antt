use Rattle.std.specs.Prelude.{◌≡◌, map, take}
use Rattle.plan_spec.specs.Edits.{shifted_point}
use Rattle.plan_check.proofs.shifts.shifted_points.Given as goal

abbrev pub invariant-loop-p : goal.invariant-loop-p
invariant-loop-p l = l.moved ≡ map (shifted_point l.dx l.dy) (take l.p-index l.points)

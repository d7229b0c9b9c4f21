use Rattle.std.specs.Prelude.{◌≡◌, take}
use Rattle.plan_check.proofs.plan_parts.copied_points.Given as goal

abbrev pub invariant-loop-p : goal.invariant-loop-p
invariant-loop-p l = l.copy ≡ take l.p-index l.points

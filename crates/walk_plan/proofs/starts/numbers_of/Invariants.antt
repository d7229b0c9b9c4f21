use Rattle.std.proofs.Common.{◌≡◌, map, take}
use Rattle.walk_plan.proofs.starts.numbers_of.Given as goal

abbrev pub invariant-loop-point : goal.invariant-loop-point
invariant-loop-point l = l.numbers.items ≡ map (λ e. e.0) (take l.point-index l.points)

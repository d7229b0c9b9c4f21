use Rattle.std.proofs.Common.{◌≡◌, drop}
use Rattle.std.specs.List.{list_any}
use Rattle.sight_spec.specs.Sight.{has_inside}
use Rattle.sight_core.proofs.openness.is_in_obstacle.Given as goal

abbrev pub invariant-loop-k : goal.invariant-loop-k
invariant-loop-k l = list_any (has_inside l.x) l.plan.obstacles ≡ list_any (has_inside l.x) (drop l.k l.plan.obstacles)

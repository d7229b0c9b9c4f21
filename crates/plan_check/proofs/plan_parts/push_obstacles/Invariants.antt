use Rattle.std.specs.Prelude.{◌≡◌, ◌++◌, drop, map}
use Rattle.plan_spec.specs.Plan.{obstacle_item}
use Rattle.plan_check.proofs.plan_parts.push_obstacles.Given as goal

abbrev pub invariant-loop-k : goal.invariant-loop-k
invariant-loop-k l = l.items ++ map obstacle_item (drop l.k l.draft.obstacles) ≡ l.initial.items ++ map obstacle_item l.draft.obstacles

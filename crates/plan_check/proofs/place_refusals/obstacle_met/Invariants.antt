use Rattle.std.specs.Prelude.{◌≡◌, drop}
use Rattle.plan_spec.specs.Refusals.{first_obstacle, obstacles_met}
use Rattle.plan_check.proofs.place_refusals.obstacle_met.Given as goal

abbrev pub invariant-loop-k : goal.invariant-loop-k
invariant-loop-k l =
    first_obstacle (obstacles_met l.points (drop l.k l.draft.obstacles))
    ≡ first_obstacle (obstacles_met l.points l.draft.obstacles)

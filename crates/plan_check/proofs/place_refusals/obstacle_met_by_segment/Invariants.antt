use Rattle.std.specs.Prelude.{◌≡◌, drop}
use Rattle.plan_spec.specs.Refusals.{first_obstacle, obstacles_met_by_segment}
use Rattle.plan_check.proofs.place_refusals.obstacle_met_by_segment.Given as goal

abbrev pub invariant-loop-k : goal.invariant-loop-k
invariant-loop-k l =
    first_obstacle (obstacles_met_by_segment l.from l.to (drop l.k l.draft.obstacles))
    ≡ first_obstacle (obstacles_met_by_segment l.from l.to l.draft.obstacles)

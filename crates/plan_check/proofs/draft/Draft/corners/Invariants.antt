use Rattle.std.specs.Prelude.{◌≡◌, ◌+◌, drop}
use Rattle.std.specs.List.{sum_by}
use Rattle.plan_spec.specs.Plan.{corner_count, corners_of_obstacle_count}
use Rattle.plan_check.proofs.draft.Draft.corners.Given as goal

abbrev pub invariant-loop-k : goal.invariant-loop-k
invariant-loop-k l = l.corners + sum_by corners_of_obstacle_count (drop l.k l.self.obstacles) ≡ corner_count l.self

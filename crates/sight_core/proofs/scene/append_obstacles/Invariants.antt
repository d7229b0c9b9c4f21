use Rattle.std.proofs.Common.{◌≡◌, ◌++◌, drop}
use Rattle.std.specs.List.{flat_map}
use Rattle.sight_spec.specs.Scene.{corners_of_obstacle}
use Rattle.sight_core.proofs.scene.append_obstacles.Given as goal

abbrev pub invariant-loop-k : goal.invariant-loop-k
invariant-loop-k l =
    l.corners.items ++ flat_map corners_of_obstacle (drop l.k l.plan.obstacles) ≡ l.fn.corners.items ++ flat_map corners_of_obstacle l.plan.obstacles

use Rattle.std.proofs.Common.{◌≡◌, ◌++◌, drop}
use Rattle.std.specs.List.{flat_map}
use Rattle.sight_spec.specs.Scene.{walls_of, walls_of_obstacle}
use Rattle.sight_core.proofs.scene.walls_of.Given as goal

abbrev pub invariant-loop-k : goal.invariant-loop-k
invariant-loop-k l = l.walls.items ++ flat_map walls_of_obstacle (drop l.k l.plan.obstacles) ≡ walls_of l.plan

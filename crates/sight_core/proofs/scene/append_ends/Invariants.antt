use Rattle.std.proofs.Common.{◌≡◌, ◌++◌, drop}
use Rattle.std.specs.List.{flat_map}
use Rattle.sight_spec.specs.Scene.{ends_of_screen}
use Rattle.sight_core.proofs.scene.append_ends.Given as goal

abbrev pub invariant-loop-k : goal.invariant-loop-k
invariant-loop-k l =
    l.corners.items ++ flat_map ends_of_screen (drop l.k l.plan.screens) ≡ l.fn.corners.items ++ flat_map ends_of_screen l.plan.screens

use Rattle.std.proofs.Common.{◌≡◌, ◌++◌, drop, map}
use Rattle.sight_spec.specs.Scene.{segment_of_screen, screens_of}
use Rattle.sight_core.proofs.scene.screens_of.Given as goal

abbrev pub invariant-loop-k : goal.invariant-loop-k
invariant-loop-k l = l.screens.items ++ map segment_of_screen (drop l.k l.plan.screens) ≡ screens_of l.plan

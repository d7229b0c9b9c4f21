use Rattle.std.proofs.Common.{take}
use Rattle.vga_grid.specs.Openness.{AreBoxesOf}
use Rattle.vga_grid.proofs.obstacles.obstacle_boxes.Given as goal

abbrev pub invariant-loop-k : goal.invariant-loop-k
invariant-loop-k l = AreBoxesOf (take l.k l.fn.plan.obstacles) l.boxes.items

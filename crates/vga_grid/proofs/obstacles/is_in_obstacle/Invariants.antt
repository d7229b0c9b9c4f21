use Rattle.std.proofs.Common.{◌≡◌, drop}
use Rattle.std.specs.List.{list_any}
use Rattle.sight_spec.specs.Sight.{has_inside}
use Rattle.vga_grid.proofs.obstacles.is_in_obstacle.Given as goal

abbrev pub invariant-loop-k : goal.invariant-loop-k
invariant-loop-k l = list_any (has_inside l.x) l.plan.obstacles ≡ list_any (has_inside l.x) (drop l.k l.plan.obstacles)

use Rattle.plan_laws.proofs.Ranges.{outer_in_range}
use Rattle.vga_grid.proofs.obstacles.is_open_by.Goals as goal

pub is_within-requires-clause-points_in : goal.is_within-requires-clause-points_in
is_within-requires-clause-points_in c =
    rw c.outer.ensures.points (outer_in_range c.args.plan.now c.outer.ensures.sound)

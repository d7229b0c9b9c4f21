use Rattle.std.specs.Prelude.{[]}
use Rattle.std.proofs.Common.{◌∙◌, sym}
use Rattle.plan_spec.specs.Plan.{obstacle}
use Rattle.plan_laws.proofs.Ranges.{obstacles_in_range}
use Rattle.plan_check.specs.Kept.{obstacle_at}
use Rattle.vga_grid.proofs.Boxed.{box_at, outside}
use Rattle.vga_grid.proofs.obstacles.is_inside_obstacle.Goals as goal

pub inside-requires-clause-points_in : goal.inside-requires-clause-points_in
inside-requires-clause-points_in c =
    rw c.obstacle.ensures.points (obstacles_in_range c.args.plan.now c.requires.sound c.args.k (obstacle [] []) c.requires.within)

pub returns-else-is_in_box-clause-inside : goal.returns-else-is_in_box-clause-inside
returns-else-is_in_box-clause-inside c =
    let boxed = box_at c.args.plan.now.obstacles c.args.boxes.now c.args.k (obstacle [] []) _ c.requires.boxes c.requires.within in
    let beside = sym c.is_in_box.ensures ∙ c.if-is_in_box.false in
    c.if-is_in_box.false ∙ sym (outside c.args.x (obstacle_at c.args.plan.now c.args.k).points _ boxed beside)

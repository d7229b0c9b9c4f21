use Rattle.std.specs.Prelude.{[]}
use Rattle.std.proofs.Common.{arith}
use Rattle.plan_spec.specs.Plan.{obstacle}
use Rattle.plan_laws.proofs.Ranges.{sound_obstacles}
use Rattle.vga_grid.proofs.obstacles.obstacle_box.Goals as goal

pub box_of-requires : goal.box_of-requires
box_of-requires c =
    let polygon = sound_obstacles c.args.plan.now c.requires.sound c.args.k (obstacle [] []) c.requires.within in
    rw c.obstacle.ensures.points (omega (arith, polygon.at_least))

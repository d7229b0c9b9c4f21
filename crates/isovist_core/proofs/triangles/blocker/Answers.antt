use Rattle.std.proofs.Common.{length, ◌-◌}
use Rattle.sight_spec.specs.Isovist.{no_segment}
use Rattle.isovist_core.proofs.Rounded.{wall_at, screen_at, screen_below}
use Rattle.isovist_core.proofs.triangles.blocker.Goals as goal

pub returns-then-number-walls : goal.returns-then-number-walls
returns-then-number-walls c =
    let walls = c.walls-walls.result.now in
    record {
      value = wall_at c.args.scene.now c.args.number walls c.walls-walls.ensures.walls c.if-number-walls.true;
      in_range = c.walls-walls.ensures.in_range c.args.number no_segment c.if-number-walls.true;
    }

pub returns-else-number-walls : goal.returns-else-number-walls
returns-else-number-walls c =
    let walls = c.walls-walls.result.now in
    let screens = c.screens-screens.result.now in
    record {
      value =
          screen_at c.args.scene.now c.args.number walls screens c.walls-walls.ensures.walls
          c.screens-screens.ensures.screens c.if-number-walls.false;
      in_range =
          c.screens-screens.ensures.in_range (c.args.number - length walls) no_segment
          (screen_below c.args.scene.now c.args.number walls screens c.walls-walls.ensures.walls
          c.screens-screens.ensures.screens c.if-number-walls.false c.requires);
    }

use Rattle.std.specs.Prelude.{◌≡◌, ◌<◌, length, true}
use Rattle.std.proofs.Common.{sym, subst, arith}
use Rattle.plan_spec.specs.Grid.{grid_points}
use Rattle.plane_spec.specs.Vectors.{is_upper}
use Rattle.vga_looks.specs.Tables.{way_between}
use Rattle.vga_looks.proofs.Later.{later_is_upper}
use Rattle.vga_looks.proofs.Turning.{upper_is_directed}
use Rattle.vga_looks.proofs.arcs.way_to.Goals as goal

pub returns-clause-later : goal.returns-clause-later
returns-clause-later c =
    let upper : is_upper c.vector.result ≡ true = rw (c.vector.ensures.value, c.point.ensures.point, c.point-2.ensures.point, c.requires.grid)
    (later_is_upper c.args.plan.now c.args.i c.args.j c.requires.sound c.requires.later.0 c.requires.later.1) in
    record {
      direction = c.vector.ensures.direction;
      directed = record { somewhere = upper_is_directed c.vector.result upper };
      upper = upper;
    }

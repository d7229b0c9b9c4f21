use Rattle.std.specs.Prelude.{◌<◌, ◌≤◌, length, All}
use Rattle.std.proofs.Common.{arith, sym, subst, ◌∙◌}
use Rattle.std.proofs.lemmas.List.{take_more, take_all}
use Rattle.std.proofs.lemmas.List.Elements.{All-push}
use Rattle.plane_spec.specs.Vectors.{InRange}
use Rattle.plan_spec.specs.Grid.{grid_points}
use Rattle.vga_looks.specs.Tables.{nowhere}
use Rattle.vga_looks.proofs.grid_table.points_of.Goals as goal

pub loop-i-preserved : goal.loop-i-preserved
loop-i-preserved c =
    let items = c.in_ok-push.ensures.items in
    let count = c.count-i-end.ensures.count in
    let inside : c.loop-i.i < length (grid_points c.args.grid.now) = omega (arith, c.loop-i-test.true, count) in (
      rw (items, c.loop-i.invariant.0, c.place.ensures.place) (sym (take_more (grid_points c.args.grid.now) c.loop-i.i nowhere inside)),
      subst (All InRange) (sym items)
          (All-push InRange c.loop-i.points.items c.place.result c.loop-i.invariant.1 c.place.ensures.in_range),
    )

pub returns : goal.returns
returns c =
    let count = c.count-i-end.ensures.count in
    let past : length (grid_points c.args.grid.now) ≤ c.loop-i.i = omega (arith, c.loop-i-test.false, count) in
    record {
      points = c.loop-i.invariant.0 ∙ take_all c.loop-i.i (grid_points c.args.grid.now) past;
      in_range = c.loop-i.invariant.1;
    }

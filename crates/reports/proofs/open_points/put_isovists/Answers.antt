use Rattle.std.proofs.Common.{◌<◌, ◌^◌, length, arith}
use Rattle.plan_spec.specs.Grid.{grid_points}
use Rattle.report_spec.specs.Tables.{isovist_row}
use Rattle.reports.proofs.Elements.{open_few}
use Rattle.reports.proofs.open_points.put_isovists.Goals as goal

pub put_table-requires-clause-few : goal.put_table-requires-clause-few
put_table-requires-clause-few g c =
    let counted = rw c.of.ensures.grid at c.count-points.ensures.count in
    let few : length (grid_points c.args.plan.now.grid) < 2 ^ 64 =
    omega (arith, counted, c.count-points.ensures.at_most) in
    open_few isovist_row _ _ 0 (grid_points c.args.plan.now.grid) few

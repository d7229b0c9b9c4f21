use Rattle.std.specs.Prelude.{◌≡◌, ◌<◌, ◌/◌, ◌%◌, length, unsigned_abs}
use Rattle.std.proofs.Common.{arith, ◌∙◌}
use Rattle.std.proofs.lemmas.Int.{ints, to_z-of_z}
use Rattle.plan_spec.specs.declared.limits.TheConstants.{MAX_GRID_POINTS}
use Rattle.plan_spec.specs.Grid.{grid_points}
use Rattle.vga_grid.proofs.Numbers.{count_at_most, row_and_col, point_of_row_and_col}
use Rattle.vga_grid.proofs.grid.place_in.Goals as goal

pub point_at-requires-clause-row_in : goal.point_at-requires-clause-row_in
point_at-requires-clause-row_in c =
    let cols : c.count-cols.result ≡ unsigned_abs c.args.g.cols = grind (arith, ints, to_z-of_z) in
    let place = row_and_col c.args.g c.args.i c.requires.i_in in
    let rows = c.requires.grid.rows in
    rw cols (omega (arith, place.below, count_at_most c.args.g.rows MAX_GRID_POINTS rows.from rows.to))

pub returns : goal.returns
returns c =
    let cols : c.count-cols.result ≡ unsigned_abs c.args.g.cols = grind (arith, ints, to_z-of_z) in
    c.point_at.ensures ∙ rw cols (point_of_row_and_col c.args.g c.args.i c.requires.i_in)

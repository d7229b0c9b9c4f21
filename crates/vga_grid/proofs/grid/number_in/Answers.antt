use Rattle.std.specs.Prelude.{◌≡◌, ℕ, ◌<◌, pos, ◌+ℤ◌, ◌*ℤ◌, unsigned_abs}
use Rattle.std.proofs.Common.{arith, sym, ◌∙◌}
use Rattle.std.proofs.lemmas.Int.{ints, to_z-of_z}
use Rattle.vga_grid.proofs.Numbers.{number_there, number_nowhere, at_col, at_row, at_point}
use Rattle.vga_grid.proofs.grid.number_in.Goals as goal

pub returns-in_err-col : goal.returns-in_err-col
returns-in_err-col c =
    let cols : c.count-cols.result ≡ unsigned_abs c.args.g.cols = grind (arith, ints, to_z-of_z) in
    c.from_residual.ensures
    ∙ sym (number_nowhere c.args.g c.args.x (λ row col below inside at.
    let here : c.args.g.x0 +ℤ c.args.g.step *ℤ pos col ≡ c.args.x.x = at_col c.args.g c.args.x row col at in
    c.in_err-col.ensures.none col (rw cols inside) (grind (arith, to_z-of_z, here))))

pub returns-in_err-row : goal.returns-in_err-row
returns-in_err-row c =
    let rows : c.count.result ≡ unsigned_abs c.args.g.rows = grind (arith, ints, to_z-of_z) in
    c.from_residual-in_err-row.ensures
    ∙ sym (number_nowhere c.args.g c.args.x (λ row col below inside at.
    let here : c.args.g.y0 +ℤ c.args.g.step *ℤ pos row ≡ c.args.x.y = at_row c.args.g c.args.x row col at in
    c.in_err-row.ensures.none row (rw rows below) (grind (arith, to_z-of_z, here))))

pub returns : goal.returns
returns c =
    let cols : c.count-cols.result ≡ unsigned_abs c.args.g.cols = grind (arith, ints, to_z-of_z) in
    let rows : c.count.result ≡ unsigned_abs c.args.g.rows = grind (arith, ints, to_z-of_z) in
    let col = c.in_ok-col.ensures.some in
    let row = c.in_ok-row.ensures.some in
    let col_at = col.1 in
    let row_at = row.1 in
    let x_is : c.args.g.x0 +ℤ c.args.g.step *ℤ pos c.in_ok-col.col ≡ c.args.x.x = grind (arith, to_z-of_z, col_at) in
    let y_is : c.args.g.y0 +ℤ c.args.g.step *ℤ pos c.in_ok-row.row ≡ c.args.x.y = grind (arith, to_z-of_z, row_at) in
    rw cols (sym (number_there c.args.g c.args.x c.in_ok-row.row c.in_ok-col.col c.requires
    (rw rows at row.0) (rw cols at col.0)
    (at_point c.args.g c.args.x c.in_ok-row.row c.in_ok-col.col x_is y_is)))

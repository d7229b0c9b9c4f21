use Rattle.std.specs.Prelude.{◌≡◌, unsigned_abs}
use Rattle.std.proofs.Common.{arith}
use Rattle.std.proofs.lemmas.Int.{ints, to_z-of_z}
use Rattle.plan_laws.proofs.Grids.{grid_length}
use Rattle.vga_grid.proofs.grid.count_of.Goals as goal

pub returns-clause-count : goal.returns-clause-count
returns-clause-count c =
    let cols : c.count.result ≡ unsigned_abs c.args.g.cols = grind (arith, ints, to_z-of_z) in
    let rows : c.count-2.result ≡ unsigned_abs c.args.g.rows = grind (arith, ints, to_z-of_z) in
    rw (grid_length c.args.g, cols, rows)

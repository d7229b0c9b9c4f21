use Rattle.std.proofs.Common.{sym}
use Rattle.vga_grid.proofs.Numbers.{no_points}
use Rattle.vga_grid.proofs.grid.Grid.count.Goals as goal

pub returns-in-None-clause-count : goal.returns-in-None-clause-count
returns-in-None-clause-count c = rw (← c.self.view_is, c.in-None.is) (sym no_points)

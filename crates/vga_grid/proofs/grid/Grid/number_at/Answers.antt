use Rattle.std.proofs.Common.{sym}
use Rattle.vga_grid.proofs.Numbers.{no_number}
use Rattle.vga_grid.proofs.grid.Grid.number_at.Goals as goal

pub returns-in-None : goal.returns-in-None
returns-in-None c = rw (← c.self.view_is, c.in-None.is) (sym (no_number c.args.x))

use Rattle.std.proofs.Common.{◌*◌, ap, ℕ}
use Rattle.vga_grid.proofs.Rows.{row_joined}
use Rattle.vga_grid.proofs.bit_graph.BitGraph.row.Goals as goal

pub returns-clause-bits : goal.returns-clause-bits
returns-clause-bits c = rw (← c.self.view_is, c.deref.ensures.value) (λ j.
    row_joined c.self.inside.words.items c.self.inside.count c.args.i j c.row_len-len.result _ c.row_len-len.ensures (ap (λ (v : ℕ). c.args.i * v) c.row_len-len.ensures)
    (rw (← c.self.view_is) at c.requires) c.self.invariant)

use Rattle.vga_grid.proofs.Rows.{set_pair_bit}
use Rattle.vga_grid.proofs.bits.set_bit.Goals as goal

pub returns : goal.returns
returns c = rw c.row_len.ensures (record { bits = λ a b hb. set_pair_bit c.args.words.now c.args.n c.args.i c.args.j a b c.requires.sized c.requires.i c.requires.j hb })

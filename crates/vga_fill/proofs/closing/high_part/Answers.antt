use Rattle.vga_grid.proofs.Words.{high_bits}
use Rattle.vga_fill.proofs.closing.high_part.Goals as goal

pub returns : goal.returns
returns c = λ i h. high_bits c.args.word c.args.b i c.requires h

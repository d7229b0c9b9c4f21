use Rattle.vga_grid.proofs.Words.{cleared_bits, cleared_less}
use Rattle.walk_core.proofs.neighbours.cleared.Goals as goal

pub returns-clause-bits : goal.returns-clause-bits
returns-clause-bits c = λ i h. cleared_bits c.args.word c.args.b i c.requires h

pub returns-clause-less : goal.returns-clause-less
returns-clause-less c = cleared_less c.args.word c.args.b c.requires

use Rattle.std.proofs.Common.{arith}
use Rattle.vga_grid.proofs.Words.{lowest_bit, least_bit}
use Rattle.walk_core.proofs.neighbours.lowest.Goals as goal

pub returns-clause-here : goal.returns-clause-here
returns-clause-here c = (lowest_bit c.args.word c.requires (omega arith)).1

pub returns-clause-least : goal.returns-clause-least
returns-clause-least c = least_bit c.args.word c.requires (omega arith)

use Rattle.std.proofs.Common.{sym}
use Rattle.std.specs.Mem.Slots.{slots_items}
use Rattle.vga_fill.proofs.Closed.{found}
use Rattle.vga_fill.proofs.closing.word.Goals as goal

pub returns : goal.returns
returns c = sym (found (slots_items c.args.closed.now.words) c.word.result c.args.k c.word.ensures)

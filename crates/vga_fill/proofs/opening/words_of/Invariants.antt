use Rattle.vga_fill.proofs.Opened.{HasRows}
use Rattle.vga_fill.proofs.opening.words_of.Given as goal

abbrev pub invariant-loop-i : goal.invariant-loop-i
invariant-loop-i l = HasRows l.graph l.i l.words.items

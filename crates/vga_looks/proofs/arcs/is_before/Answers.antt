use Rattle.std.proofs.Common.{sym, ◌∙◌}
use Rattle.vga_looks.proofs.Turning.{before, not_before}
use Rattle.vga_looks.proofs.arcs.is_before.Goals as goal

pub returns-clause-yes : goal.returns-clause-yes
returns-clause-yes c is = before c.args.d c.args.e c.requires.d_later c.requires.e_later (sym c.turns_left.ensures ∙ is)

pub returns-clause-no : goal.returns-clause-no
returns-clause-no c is = not_before c.args.d c.args.e c.requires.d_later c.requires.e_later (sym c.turns_left.ensures ∙ is)

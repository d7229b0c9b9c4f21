use Rattle.std.proofs.Common.{◌≡◌, ◌++◌, drop}
use Rattle.axial_lines.proofs.line_set.LineSet.to_list.Given as goal

abbrev pub invariant-loop-line : goal.invariant-loop-line
invariant-loop-line l = (l.lines.items ++ drop l.line-index l.line-items ≡ l.line-items) × (l.line-items ≡ l.self)

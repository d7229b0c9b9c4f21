use Rattle.std.proofs.Common.{◌≡◌, ◌≤◌, ◌+◌, ◌-◌, ◌++◌, drop, length}
use Rattle.list_laws.specs.Merged.{merged}
use Rattle.line_laws.specs.Lines.{comes_before}
use Rattle.axial_lines.proofs.kept.merge.Given as goal

abbrev pub invariant-loop-i : goal.invariant-loop-i
invariant-loop-i l =
    (l.all.items ++ merged comes_before (drop l.i l.kept) (drop l.j l.fresh) ≡ merged comes_before l.kept l.fresh)
    × (l.i ≤ length l.kept) × (l.j ≤ length l.fresh)

abbrev pub decreases-loop-i : goal.decreases-loop-i
decreases-loop-i l = (length l.kept - l.i) + (length l.fresh - l.j)

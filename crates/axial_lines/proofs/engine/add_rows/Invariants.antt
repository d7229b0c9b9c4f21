use Rattle.std.proofs.Common.{◌≡◌, drop}
use Rattle.plane_spec.specs.Lists.{pairs}
use Rattle.axial_lines.specs.Found.{lines_added}
use Rattle.axial_lines.proofs.engine.add_rows.Given as goal

abbrev pub invariant-loop-k : goal.invariant-loop-k
invariant-loop-k l =
    lines_added l.scene l.area l.lines (pairs (drop l.k l.outlooks.ends))
    ≡ lines_added l.scene l.area l.fn.lines (pairs l.outlooks.ends)

use Rattle.std.proofs.Common.{◌≡◌, ◌+◌, map, drop}
use Rattle.plane_spec.specs.Lists.{with_each}
use Rattle.axial_lines.specs.Found.{lines_added}
use Rattle.axial_lines.specs.Looks.{end_at}
use Rattle.axial_lines.proofs.engine.add_row.Given as goal

abbrev pub invariant-loop-k : goal.invariant-loop-k
invariant-loop-k l =
    lines_added l.scene l.area l.lines (map (with_each (end_at l.outlooks.ends l.i)) (drop l.k l.outlooks.ends))
    ≡ lines_added l.scene l.area l.fn.lines
    (map (with_each (end_at l.outlooks.ends l.i)) (drop (l.i + 1) l.outlooks.ends))

use Rattle.std.proofs.Common.{◌≡◌, ◌++◌, drop}
use Rattle.dirty_laws.specs.Scenes.{removal_of}
use Rattle.line_laws.specs.Lines.{kept_lines}
use Rattle.axial_lines.proofs.kept.kept_lines.Given as goal

abbrev pub invariant-loop-k : goal.invariant-loop-k
invariant-loop-k l =
    l.kept.items ++ kept_lines (removal_of l.area) l.scene (drop l.k l.lines) l.start l.count
    ≡ kept_lines (removal_of l.area) l.scene l.lines l.start l.count

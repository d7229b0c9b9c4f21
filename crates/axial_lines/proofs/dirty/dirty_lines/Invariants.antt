use Rattle.std.proofs.Common.{◌≡◌, ◌++◌, filter, drop}
use Rattle.dirty_laws.specs.Scenes.{removal_of}
use Rattle.sight_spec.specs.Dirty.{is_dirty_line}
use Rattle.axial_lines.proofs.dirty.dirty_lines.Given as goal

abbrev pub invariant-loop-k : goal.invariant-loop-k
invariant-loop-k l =
    l.found.items ++ filter (is_dirty_line (removal_of l.area) l.scene) (drop l.k l.lines)
    ≡ filter (is_dirty_line (removal_of l.area) l.scene) l.lines

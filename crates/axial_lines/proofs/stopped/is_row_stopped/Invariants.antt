use Rattle.std.proofs.Common.{◌≡◌, ◌+◌, map, drop}
use Rattle.std.specs.List.{list_all}
use Rattle.plane_spec.specs.Lists.{with_each}
use Rattle.axial_lines.specs.Looks.{end_at}
use Rattle.axial_lines.specs.Removal.{is_stopped_if_seen}
use Rattle.axial_lines.proofs.stopped.is_row_stopped.Given as goal

abbrev pub invariant-loop-k : goal.invariant-loop-k
invariant-loop-k l =
    list_all (is_stopped_if_seen l.scene) (map (with_each (end_at l.outlooks.ends l.i)) (drop l.k l.outlooks.ends))
    ≡ list_all (is_stopped_if_seen l.scene)
    (map (with_each (end_at l.outlooks.ends l.i)) (drop (l.i + 1) l.outlooks.ends))

use Rattle.std.proofs.Common.{◌≡◌, drop}
use Rattle.std.specs.List.{list_all}
use Rattle.plane_spec.specs.Lists.{pairs}
use Rattle.axial_lines.specs.Removal.{is_stopped_if_seen}
use Rattle.axial_lines.proofs.stopped.are_stopped.Given as goal

abbrev pub invariant-loop-k : goal.invariant-loop-k
invariant-loop-k l =
    list_all (is_stopped_if_seen l.scene) (pairs (drop l.k l.outlooks.ends))
    ≡ list_all (is_stopped_if_seen l.scene) (pairs l.outlooks.ends)

use Rattle.std.proofs.Common.{◌≤◌, ◌-◌, length, map}
use Rattle.sight_spec.specs.Axial.{here_of}
use Rattle.axial_lines.specs.Removal.{AreAlikeBefore}
use Rattle.axial_lines.proofs.gap.common_front.Given as goal

abbrev pub invariant-loop-k : goal.invariant-loop-k
invariant-loop-k l =
    AreAlikeBefore l.k (map here_of l.some) (map here_of l.others) × (l.k ≤ length l.some) × (l.k ≤ length l.others)

abbrev pub decreases-loop-k : goal.decreases-loop-k
decreases-loop-k l = length l.some - l.k

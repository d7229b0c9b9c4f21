use Rattle.std.proofs.Common.{◌≡◌, ◌<◌, ℕ, get_or}
use Rattle.std.specs.Prelude.{if◌then◌else◌}
use Rattle.line_graph.specs.Extents.{are_near}
use Rattle.line_graph.proofs.near.mark.Given as goal

abbrev pub invariant-loop-j : goal.invariant-loop-j
invariant-loop-j l = (m : ℕ) → l.i < m → m < l.j
    → get_or l.flags m 0 ≡ (if are_near l.here (record {
      left = get_or l.left m 0;
      right = get_or l.right m 0;
      below = get_or l.below m 0;
      above = get_or l.above m 0;
    }) then 1 else 0)

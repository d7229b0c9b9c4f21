use Rattle.std.proofs.Common.{◌≡◌, ◌-◌, ◌≤◌, length}
use Rattle.vga_grid.specs.Rows.{bit_of, is_joined}
use Rattle.step_depth.proofs.Fronts.{PushingFront}
use Rattle.step_depth.proofs.levels.push_each.Given as goal

abbrev pub invariant-loop-k : goal.invariant-loop-k
invariant-loop-k l = (length l.missing ≡ length l.fn.missing) × (l.k ≤ length l.front) × PushingFront (is_joined l.graph) l.front l.k (bit_of l.fn.missing) (bit_of l.missing)

abbrev pub decreases-loop-k : goal.decreases-loop-k
decreases-loop-k l = length l.front - l.k

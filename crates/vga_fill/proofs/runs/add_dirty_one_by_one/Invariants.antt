use Rattle.std.specs.Prelude.{◌≤◌}
use Rattle.vga_fill.specs.DirtyNumbers.{AreDirtyBelow}
use Rattle.vga_fill.proofs.runs.add_dirty_one_by_one.Given as goal

abbrev pub invariant-loop-j : goal.invariant-loop-j
invariant-loop-j l = (l.j ≤ l.to) × AreDirtyBelow l.sights.plan.value l.boxes l.row l.j l.numbers.items

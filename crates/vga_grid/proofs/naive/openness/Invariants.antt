use Rattle.std.proofs.Common.{◌≡◌}
use Rattle.vga_grid.specs.Openness.{openness_of}
use Rattle.vga_grid.proofs.naive.openness.Given as goal

abbrev pub invariant-loop-i : goal.invariant-loop-i
invariant-loop-i l =
    l.flags.items ≡ openness_of l.fn.plan l.i

use Rattle.std.specs.Prelude.{◌-◌}
use Rattle.vga_fill.proofs.runs.+add_dirty.Given as goal

abbrev pub decreases-add_dirty : goal.decreases-add_dirty
decreases-add_dirty l = l.to - l.from

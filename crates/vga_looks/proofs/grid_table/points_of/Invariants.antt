use Rattle.std.proofs.Common.{take}
use Rattle.std.specs.Prelude.{◌≡◌, All}
use Rattle.plane_spec.specs.Vectors.{InRange}
use Rattle.plan_spec.specs.Grid.{grid_points}
use Rattle.vga_looks.proofs.grid_table.points_of.Given as goal

abbrev pub invariant-loop-i : goal.invariant-loop-i
invariant-loop-i l = (l.points.items ≡ take l.i (grid_points l.grid)) × All InRange l.points.items

use Rattle.std.specs.Prelude.{◌<◌, length, Some, IfSome}
use Rattle.std.proofs.Common.{arith, subst}
use Rattle.plan_spec.specs.Ranges.{IsGridInRange}
use Rattle.plan_laws.proofs.Grids.{grid_in_range}
use Rattle.vga_grid.proofs.Numbers.{no_points}
use Rattle.vga_grid.proofs.grid.Grid.place.Goals as goal

pub returns-in-Some-clause-in_range : goal.returns-in-Some-clause-in_range
returns-in-Some-clause-in_range c =
    let in_range = subst (λ s. IfSome s IsGridInRange) c.in-Some.is c.self.invariant in
    let below = rw (← c.self.view_is, c.in-Some.is) at c.requires in
    rw c.place_in.ensures (grid_in_range c.in-Some.g in_range c.args.i _ below)

pub returns-in-None-clause-place : goal.returns-in-None-clause-place
returns-in-None-clause-place c =
    let below = rw (← c.self.view_is, c.in-None.is) at c.requires in
    absurd (omega (arith, below, no_points))

use Rattle.std.specs.Prelude.{IfSome}
use Rattle.std.proofs.Common.{sym, subst}
use Rattle.plan_spec.specs.Ranges.{IsGridInRange}
use Rattle.plan_laws.proofs.Grids.{sound_grid}
use Rattle.vga_grid.proofs.grid.Grid.of.Goals as goal

pub invariant_of-result : goal.invariant_of-result
invariant_of-result c =
    subst (λ g. IfSome g IsGridInRange) (sym c.grid.ensures.grid) (sound_grid c.args.plan.now c.grid.ensures.sound)

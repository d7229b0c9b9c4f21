use Rattle.std.specs.Prelude.{◌≡◌, ◌+ℤ◌, pos}
use Rattle.std.proofs.Common.{arith}
use Rattle.std.proofs.lemmas.Int.{ints, to_z-of_z}
use Rattle.vga_grid.proofs.Numbers.{between_steps}
use Rattle.vga_grid.proofs.grid.number_along.Goals as goal

pub returns-then-distance-step-ne0-clause-none : goal.returns-then-distance-step-ne0-clause-none
returns-then-distance-step-ne0-clause-none c = λ k below along.
    let step : pos c.step_of-step.result ≡ c.args.step = grind (arith, to_z-of_z) in
    let at : c.args.first +ℤ pos c.in_ok-distance.distance ≡ c.args.z = grind (arith, to_z-of_z) in
    between_steps c.args.first c.args.step c.args.z c.step_of-step.result c.in_ok-distance.distance k step at
    c.if-distance-step-ne0.true along

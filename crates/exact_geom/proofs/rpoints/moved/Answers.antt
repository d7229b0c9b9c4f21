use Rattle.std.proofs.Common.{◌≡◌, ap, ◌*ℤ◌, ◌+ℤ◌, rules}
use Rattle.std.specs.Prelude.{FitsSigned}
use Rattle.std.proofs.lemmas.Int.{to_z-of_z}
use mir.Syntax.{w64, w128}
use Rattle.int_laws.proofs.Ring.{product_swapped}
use Rattle.exact_geom.proofs.rpoints.moved.Goals as goal

pub returns-clause-value : goal.returns-clause-value
returns-clause-value c =
    let z_fits : FitsSigned w64 c.args.z = c.ranges.z in
    let d_fits : FitsSigned w64 c.args.d = c.ranges.d in
    let num_fits : FitsSigned w128 c.args.num = c.ranges.num in
    let den_fits : FitsSigned w128 c.args.den = c.ranges.den in
    let first_fits : FitsSigned w128 c.scaled.result = search rules in
    let second_fits : FitsSigned w128 c.scaled-2.result = search rules in
    let sum_fits : FitsSigned w128 c.sum.result = search rules in
    let first : c.scaled.result ≡ c.args.z *ℤ c.args.den = simp to_z-of_z at c.scaled.ensures.value in
    let second : c.scaled-2.result ≡ c.args.d *ℤ c.args.num = simp to_z-of_z at c.scaled-2.ensures.value in
    let total : c.sum.result ≡ c.scaled.result +ℤ c.scaled-2.result = simp to_z-of_z at c.sum.ensures.value in
    rw (to_z-of_z w128 c.sum.result sum_fits, total, first, second) (ap (λ t. c.args.z *ℤ c.args.den +ℤ t) (product_swapped c.args.d c.args.num))

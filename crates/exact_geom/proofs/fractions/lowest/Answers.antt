use Rattle.std.proofs.Common.{◌≡◌, sym, subst, rules}
use Rattle.std.specs.Prelude.{unsigned_abs, FitsSigned}
use Rattle.std.proofs.lemmas.Int.{to_z-of_z}
use mir.Syntax.{w128}
use Rattle.plane_spec.specs.Fractions.{common_divisor, reduced, divided, IsReduced}
use Rattle.exact_geom.proofs.Lowest.{reduced_is_reduced, reduced_by_parts}
use Rattle.exact_geom.proofs.fractions.lowest.Goals as goal

the_parts : (c : goal.After-divided-2) → record { num = c.divided.result; den = c.divided-2.result } ≡ reduced (record { num = c.args.num; den = c.args.den })
the_parts c =
    let num_fits : FitsSigned w128 c.args.num = c.ranges.num in
    let den_fits : FitsSigned w128 c.args.den = c.ranges.den in
    let is : c.divisor_of-divisor.result ≡ common_divisor (unsigned_abs c.args.num) (unsigned_abs c.args.den) = simp to_z-of_z at c.divisor_of-divisor.ensures.value in
    let num_is : c.divided.result ≡ divided c.args.num c.divisor_of-divisor.result = simp to_z-of_z at c.divided.ensures in
    let den_is : c.divided-2.result ≡ divided c.args.den c.divisor_of-divisor.result = simp to_z-of_z at c.divided-2.ensures in
    reduced_by_parts c.args.num c.args.den c.divisor_of-divisor.result c.divided.result c.divided-2.result is num_is den_is

pub invariant_of-result : goal.invariant_of-result
invariant_of-result c =
    let num_fits : FitsSigned w128 c.divided.result = search rules in
    let den_fits : FitsSigned w128 c.divided-2.result = search rules in
    simp to_z-of_z (subst IsReduced (sym (the_parts c)) (reduced_is_reduced (record { num = c.args.num; den = c.args.den }) c.requires.positive))

pub returns : goal.returns
returns c =
    let num_fits : FitsSigned w128 c.divided.result = search rules in
    let den_fits : FitsSigned w128 c.divided-2.result = search rules in
    simp to_z-of_z (the_parts c)

use Rattle.std.proofs.Common.{◌≡◌, rules}
use Rattle.std.specs.Prelude.{FitsSigned}
use Rattle.std.specs.Int.{int_div_euclid}
use Rattle.std.proofs.lemmas.Int.{to_z-of_z}
use mir.Syntax.{w128}
use Rattle.plane_spec.specs.Fractions.{Fraction}
use Rattle.exact_geom.proofs.Rounding.{floor_not_above, floor_greatest}
use Rattle.exact_geom.proofs.fractions.Frac.floor.Goals as goal

quotient_is : (c : goal.After-div_euclid) → c.div_euclid.result ≡ int_div_euclid c.self.inside.num c.self.inside.den
quotient_is c =
    let num_fits : FitsSigned w128 c.self.inside.num = search rules in
    let den_fits : FitsSigned w128 c.self.inside.den = search rules in
    simp to_z-of_z at c.div_euclid.ensures

pub returns-clause-not_above : goal.returns-clause-not_above
returns-clause-not_above c =
    let fits : FitsSigned w128 c.div_euclid.result = search rules in
    let inside : Fraction = record { num = c.self.inside.num; den = c.self.inside.den } in
    rw (to_z-of_z w128 c.div_euclid.result fits, quotient_is c, ← c.self.view_is) (floor_not_above inside c.self.invariant.positive)

pub returns-clause-greatest : goal.returns-clause-greatest
returns-clause-greatest c =
    let fits : FitsSigned w128 c.div_euclid.result = search rules in
    let inside : Fraction = record { num = c.self.inside.num; den = c.self.inside.den } in
    rw (to_z-of_z w128 c.div_euclid.result fits, quotient_is c, ← c.self.view_is) (floor_greatest inside c.self.invariant.positive)

use Rattle.std.proofs.Common.{◌≡◌, neg_ℤ, rules}
use Rattle.std.specs.Prelude.{FitsSigned}
use Rattle.std.specs.Int.{int_div_euclid}
use Rattle.std.proofs.lemmas.Int.{to_z-of_z}
use mir.Syntax.{w128}
use Rattle.plane_spec.specs.Fractions.{Fraction}
use Rattle.exact_geom.proofs.Rounding.{ceil_not_below, ceil_least}
use Rattle.exact_geom.proofs.fractions.Frac.ceil.Goals as goal

ceiling_is : (c : goal.After-ceiling) → c.ceiling.result ≡ neg_ℤ (int_div_euclid (neg_ℤ c.self.inside.num) c.self.inside.den)
ceiling_is c =
    let num_fits : FitsSigned w128 c.self.inside.num = search rules in
    let den_fits : FitsSigned w128 c.self.inside.den = search rules in
    simp to_z-of_z at c.ceiling.ensures

pub returns-clause-not_below : goal.returns-clause-not_below
returns-clause-not_below c =
    let fits : FitsSigned w128 c.ceiling.result = search rules in
    let inside : Fraction = record { num = c.self.inside.num; den = c.self.inside.den } in
    rw (to_z-of_z w128 c.ceiling.result fits, ceiling_is c, ← c.self.view_is) (ceil_not_below inside c.self.invariant.positive)

pub returns-clause-least : goal.returns-clause-least
returns-clause-least c =
    let fits : FitsSigned w128 c.ceiling.result = search rules in
    let inside : Fraction = record { num = c.self.inside.num; den = c.self.inside.den } in
    rw (to_z-of_z w128 c.ceiling.result fits, ceiling_is c, ← c.self.view_is) (ceil_least inside c.self.invariant.positive)

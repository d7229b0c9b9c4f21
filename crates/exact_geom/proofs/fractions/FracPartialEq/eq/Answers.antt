use Rattle.std.proofs.Common.{◌≡◌, rules}
use Rattle.std.specs.Prelude.{FitsSigned, ◌&&◌}
use Rattle.std.specs.Ordering.{int_eq}
use Rattle.std.proofs.lemmas.Int.{to_z-of_z}
use mir.Syntax.{w128}
use Rattle.plane_spec.specs.Fractions.{Fraction}
use Rattle.exact_geom.proofs.Values.{parts_tell_values}
use Rattle.exact_geom.proofs.fractions.FracPartialEq.eq.Goals as goal

pub returns-clause-by_value : goal.returns-clause-by_value
returns-clause-by_value c =
    let num_fits : FitsSigned w128 c.self.inside.num = search rules in
    let den_fits : FitsSigned w128 c.self.inside.den = search rules in
    let other_num_fits : FitsSigned w128 c.other.inside.num = search rules in
    let other_den_fits : FitsSigned w128 c.other.inside.den = search rules in
    let is : c.are_same.result ≡ (int_eq c.self.inside.num c.other.inside.num && int_eq c.self.inside.den c.other.inside.den) = simp to_z-of_z at c.are_same.ensures in
    let f : Fraction = record { num = c.self.inside.num; den = c.self.inside.den } in
    let g : Fraction = record { num = c.other.inside.num; den = c.other.inside.den } in
    rw (is, ← c.self.view_is, ← c.other.view_is) (parts_tell_values f g c.self.invariant c.other.invariant)

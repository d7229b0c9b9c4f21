use Rattle.std.proofs.Common.{◌≡◌, ◌<◌, sym, subst}
use Rattle.std.specs.Prelude.{unsigned_abs, FitsSigned}
use Rattle.std.proofs.lemmas.Int.{to_z-of_z}
use mir.Syntax.{w128}
use Rattle.plane_spec.specs.Fractions.{common_divisor}
use Rattle.exact_geom.proofs.Lowest.{divisor_is_positive}
use Rattle.exact_geom.proofs.fractions.divisor_of.Goals as goal

pub returns : goal.returns
returns c =
    let num_fits : FitsSigned w128 c.args.num = c.ranges.num in
    let den_fits : FitsSigned w128 c.args.den = c.ranges.den in
    let num_size : c.unsigned_abs.result ≡ unsigned_abs c.args.num = simp to_z-of_z at c.unsigned_abs.ensures.value in
    let den_size : c.unsigned_abs-2.result ≡ unsigned_abs c.args.den = simp to_z-of_z at c.unsigned_abs-2.ensures.value in
    let is : c.common_divisor.result ≡ common_divisor (unsigned_abs c.args.num) (unsigned_abs c.args.den) = rw (num_size, den_size) at c.common_divisor.ensures in
    record {
      value = is;
      nonzero = subst (λ t. 0 < t) (sym is) (divisor_is_positive (record { num = c.args.num; den = c.args.den }) c.requires);
    }

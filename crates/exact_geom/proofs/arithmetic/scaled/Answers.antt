use Rattle.std.proofs.Common.{◌≡◌, ◌*ℤ◌, ◌^◌, lit<, rules}
use Rattle.std.specs.Prelude.{FitsSigned}
use Rattle.std.proofs.lemmas.Int.{to_z-of_z, fits_signed_mul}
use mir.Syntax.{w64, w128}
use Rattle.exact_geom.proofs.Bounds.{size_within, product_within}
use Rattle.exact_geom.proofs.arithmetic.scaled.Goals as goal

pub returns-clause-within : goal.returns-clause-within
returns-clause-within c =
    let a = c.args.a in
    let b = c.args.b in
    let a_fits : FitsSigned w64 a = c.ranges.a in
    let b_fits : FitsSigned w128 b = c.ranges.b in
    let wide_fits : FitsSigned w128 c.from.result = search rules in
    let wide : c.from.result ≡ a = simp to_z-of_z at c.from.ensures in
    let fits : FitsSigned w128 (a *ℤ b) = fits_signed_mul w128 a b 400000 (10 ^ 12) (size_within 400000 a c.requires.a_in) (size_within (10 ^ 12) b c.requires.b_in) (lit< tt) in
    rw (to_z-of_z w128 c.from.result wide_fits, wide) (simp to_z-of_z (product_within 400000 (10 ^ 12) a b c.requires.a_in c.requires.b_in))

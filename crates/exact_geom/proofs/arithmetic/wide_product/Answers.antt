use Rattle.std.proofs.Common.{◌*ℤ◌, ◌^◌, lit<}
use Rattle.std.specs.Prelude.{FitsSigned}
use Rattle.std.proofs.lemmas.Int.{to_z-of_z, fits_signed_mul}
use mir.Syntax.{w128}
use Rattle.exact_geom.proofs.Bounds.{size_within}
use Rattle.exact_geom.proofs.arithmetic.wide_product.Goals as goal

pub returns : goal.returns
returns c =
    let a = c.args.a in
    let b = c.args.b in
    let a_fits : FitsSigned w128 a = c.ranges.a in
    let b_fits : FitsSigned w128 b = c.ranges.b in
    let fits : FitsSigned w128 (a *ℤ b) = fits_signed_mul w128 a b (10 ^ 18) (10 ^ 18) (size_within (10 ^ 18) a c.requires.a_in) (size_within (10 ^ 18) b c.requires.b_in) (lit< tt) in
    simp to_z-of_z

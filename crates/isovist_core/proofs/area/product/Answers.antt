use Rattle.std.proofs.Common.{◌*ℤ◌, ◌^◌, lit<}
use Rattle.std.specs.Prelude.{FitsSigned}
use Rattle.std.proofs.lemmas.Int.{to_z-of_z, fits_signed_mul}
use mir.Syntax.{w128}
use Rattle.exact_geom.proofs.Bounds.{size_within, product_within}
use Rattle.isovist_core.proofs.area.product.Goals as goal

pub returns-clause-value : goal.returns-clause-value
returns-clause-value c =
    let a = c.args.a in
    let b = c.args.b in
    let a_fits : FitsSigned w128 a = c.ranges.a in
    let b_fits : FitsSigned w128 b = c.ranges.b in
    let fits : FitsSigned w128 (a *ℤ b) = fits_signed_mul w128 a b (10 ^ 12) (10 ^ 12) (size_within (10 ^ 12) a c.requires.a_in) (size_within (10 ^ 12) b c.requires.b_in) (lit< tt) in
    simp to_z-of_z

pub returns-clause-within : goal.returns-clause-within
returns-clause-within c =
    let a = c.args.a in
    let b = c.args.b in
    let a_fits : FitsSigned w128 a = c.ranges.a in
    let b_fits : FitsSigned w128 b = c.ranges.b in
    let fits : FitsSigned w128 (a *ℤ b) = fits_signed_mul w128 a b (10 ^ 12) (10 ^ 12) (size_within (10 ^ 12) a c.requires.a_in) (size_within (10 ^ 12) b c.requires.b_in) (lit< tt) in
    simp to_z-of_z (product_within (10 ^ 12) (10 ^ 12) a b c.requires.a_in c.requires.b_in)

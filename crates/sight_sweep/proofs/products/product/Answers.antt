use Rattle.std.proofs.Common.{◌*ℤ◌, FitsSigned, lit<, w64}
use Rattle.std.proofs.lemmas.Int.{to_z-of_z, fits_signed_mul}
use Rattle.exact_geom.proofs.Bounds.{size_within, product_within}
use Rattle.sight_sweep.proofs.products.product.Goals as goal

pub returns-clause-value : goal.returns-clause-value
returns-clause-value c =
    let a = c.args.a in
    let b = c.args.b in
    let fits_a : FitsSigned w64 a = c.ranges.a in
    let fits_b : FitsSigned w64 b = c.ranges.b in
    let fits : FitsSigned w64 (a *ℤ b) =
    fits_signed_mul w64 a b 400000 400000 (size_within 400000 a c.requires.a_in)
    (size_within 400000 b c.requires.b_in) (lit< tt) in
    simp to_z-of_z

pub returns-clause-within : goal.returns-clause-within
returns-clause-within c =
    let a = c.args.a in
    let b = c.args.b in
    let fits_a : FitsSigned w64 a = c.ranges.a in
    let fits_b : FitsSigned w64 b = c.ranges.b in
    let fits : FitsSigned w64 (a *ℤ b) =
    fits_signed_mul w64 a b 400000 400000 (size_within 400000 a c.requires.a_in)
    (size_within 400000 b c.requires.b_in) (lit< tt) in
    simp to_z-of_z (product_within 400000 400000 a b c.requires.a_in c.requires.b_in)

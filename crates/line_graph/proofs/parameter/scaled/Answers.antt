use Rattle.std.proofs.Common.{◌*ℤ◌, ◌^◌, FitsSigned, lit<, w64}
use Rattle.std.proofs.lemmas.Int.{to_z-of_z, fits_signed_mul}
use Rattle.exact_geom.proofs.Bounds.{size_within, product_within}
use Rattle.line_graph.proofs.parameter.scaled.Goals as goal

pub returns-clause-value : goal.returns-clause-value
returns-clause-value c =
    let z = c.args.z in
    let den = c.args.den in
    let fits_z : FitsSigned w64 z = c.ranges.z in
    let fits_den : FitsSigned w64 den = c.ranges.den in
    let fits : FitsSigned w64 (z *ℤ den) =
    fits_signed_mul w64 z den 400000 (10 ^ 12) (size_within 400000 z c.requires.z_in)
    (size_within (10 ^ 12) den c.requires.den_in) (lit< tt) in
    simp to_z-of_z

pub returns-clause-within : goal.returns-clause-within
returns-clause-within c =
    let z = c.args.z in
    let den = c.args.den in
    let fits_z : FitsSigned w64 z = c.ranges.z in
    let fits_den : FitsSigned w64 den = c.ranges.den in
    let fits : FitsSigned w64 (z *ℤ den) =
    fits_signed_mul w64 z den 400000 (10 ^ 12) (size_within 400000 z c.requires.z_in)
    (size_within (10 ^ 12) den c.requires.den_in) (lit< tt) in
    simp to_z-of_z (product_within 400000 (10 ^ 12) z den c.requires.z_in c.requires.den_in)

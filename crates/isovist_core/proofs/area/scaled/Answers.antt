use Rattle.std.proofs.Common.{◌*ℤ◌, ◌*◌, ◌^◌, lit<, lit≤}
use Rattle.std.specs.Prelude.{FitsSigned}
use Rattle.std.proofs.lemmas.Int.{to_z-of_z, fits_signed_mul}
use mir.Syntax.{w128}
use Rattle.exact_geom.proofs.Bounds.{size_within, product_within}
use Rattle.exact_geom.proofs.Lowest.{within_more}
use Rattle.isovist_core.proofs.area.scaled.Goals as goal

pub returns-clause-value : goal.returns-clause-value
returns-clause-value c =
    let a = c.args.a in
    let b = c.args.turn in
    let a_fits : FitsSigned w128 a = c.ranges.a in
    let b_fits : FitsSigned w128 b = c.ranges.turn in
    let fits : FitsSigned w128 (a *ℤ b) = fits_signed_mul w128 a b (10 ^ 24) 320000000000 (size_within (10 ^ 24) a c.requires.a_in) (size_within 320000000000 b c.requires.turn_in) (lit< tt) in
    simp to_z-of_z

pub returns-clause-within : goal.returns-clause-within
returns-clause-within c =
    let a = c.args.a in
    let b = c.args.turn in
    let a_fits : FitsSigned w128 a = c.ranges.a in
    let b_fits : FitsSigned w128 b = c.ranges.turn in
    let fits : FitsSigned w128 (a *ℤ b) = fits_signed_mul w128 a b (10 ^ 24) 320000000000 (size_within (10 ^ 24) a c.requires.a_in) (size_within 320000000000 b c.requires.turn_in) (lit< tt) in
    simp to_z-of_z
    (within_more (10 ^ 24 * 320000000000) (10 ^ 36) (a *ℤ b) (lit≤ tt)
    (product_within (10 ^ 24) 320000000000 a b c.requires.a_in c.requires.turn_in))

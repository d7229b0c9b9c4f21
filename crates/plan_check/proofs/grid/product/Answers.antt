use Rattle.std.proofs.Common.{◌^◌, ◌*ℤ◌, ℤ, pos, FitsSigned, w64, lit<, arith, rules, sym, subst, ◌∙◌}
use Rattle.std.specs.Int.{w128}
use Rattle.std.proofs.lemmas.Int.{ints, to_z-of_z, fits_signed_mul}
use Rattle.plane_spec.specs.Vectors.{IsWithin}
use Rattle.exact_geom.proofs.Bounds.{size_within, product_within}
use Rattle.plan_check.proofs.grid.product.Goals as goal

-- a number of 64 bits is at most 2 to the power of 63 in size
within_bits : (z : ℤ) → FitsSigned w64 z → IsWithin (pos (2 ^ 63)) z
within_bits z h = record { low = omega (arith, ints); high = omega (arith, ints) }

pub returns-clause-within : goal.returns-clause-within
returns-clause-within c =
    let a = c.from.result in
    let b = c.from-2.result in
    let a_in = within_bits a (subst (FitsSigned w64) (sym (c.from.ensures ∙ to_z-of_z w64 c.args.a c.ranges.a)) c.ranges.a) in
    let b_in = within_bits b (subst (FitsSigned w64) (sym (c.from-2.ensures ∙ to_z-of_z w64 c.args.b c.ranges.b)) c.ranges.b) in
    let fits_a : FitsSigned w128 a = search rules in
    let fits_b : FitsSigned w128 b = search rules in
    let fits : FitsSigned w128 (a *ℤ b) =
    fits_signed_mul w128 a b (2 ^ 63) (2 ^ 63) (size_within (2 ^ 63) a a_in) (size_within (2 ^ 63) b b_in) (lit< tt) in
    simp to_z-of_z (product_within (2 ^ 63) (2 ^ 63) a b a_in b_in)

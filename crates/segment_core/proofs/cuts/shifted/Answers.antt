use Rattle.std.proofs.Common.{◌≡◌, ◌^◌, ◌*ℤ◌, ◌+ℤ◌, lit≤, ap, ◌∙◌, rules}
use Rattle.std.specs.Prelude.{FitsSigned}
use Rattle.std.proofs.lemmas.Int.{to_z-of_z}
use mir.Syntax.{w64, w128}
use Rattle.plane_spec.specs.Fractions as fractions
use Rattle.int_laws.proofs.Ring.{product_swapped}
use Rattle.exact_geom.proofs.Lowest.{within_more}
use Rattle.segment_core.proofs.Ratios.{fraction_up}
use Rattle.segment_core.proofs.cuts.shifted.Goals as goal

pub new-requires-clause-num_in : goal.new-requires-clause-num_in
new-requires-clause-num_in c =
    let sum_fits : FitsSigned w64 c.sum.result = search rules in
    let fits : FitsSigned w128 c.from.result = search rules in
    let wide : c.from.result ≡ c.sum.result = simp to_z-of_z at c.from.ensures in
    rw (to_z-of_z w128 c.from.result fits, wide) (within_more (10 ^ 18) (10 ^ 36) c.sum.result
    (lit≤ tt) c.sum.ensures.within)

pub new-requires-clause-den_in : goal.new-requires-clause-den_in
new-requires-clause-den_in c =
    let den_fits : FitsSigned w64 c.args.den = c.ranges.den in
    let fits : FitsSigned w128 c.from-2.result = search rules in
    let wide : c.from-2.result ≡ c.args.den = simp to_z-of_z at c.from-2.ensures in
    rw (to_z-of_z w128 c.from-2.result fits, wide) (within_more (10 ^ 12) (10 ^ 36) c.args.den
    (lit≤ tt) c.requires.den_in)

pub returns : goal.returns
returns c =
    let z_fits : FitsSigned w64 c.args.z = c.ranges.z in
    let d_fits : FitsSigned w64 c.args.d = c.ranges.d in
    let num_fits : FitsSigned w64 c.args.num = c.ranges.num in
    let den_fits : FitsSigned w64 c.args.den = c.ranges.den in
    let sum_fits : FitsSigned w64 c.sum.result = search rules in
    let first_fits : FitsSigned w64 c.times.result = search rules in
    let second_fits : FitsSigned w64 c.times-2.result = search rules in
    let n_fits : FitsSigned w128 c.from.result = search rules in
    let m_fits : FitsSigned w128 c.from-2.result = search rules in
    let wide : c.from.result ≡ c.sum.result = simp to_z-of_z at c.from.ensures in
    let wide_too : c.from-2.result ≡ c.args.den = simp to_z-of_z at c.from-2.ensures in
    let first : c.times.result ≡ c.args.z *ℤ c.args.den = simp to_z-of_z at c.times.ensures.value in
    let second : c.times-2.result ≡ c.args.d *ℤ c.args.num = simp to_z-of_z at c.times-2.ensures.value in
    let total : c.sum.result ≡ c.times.result +ℤ c.times-2.result = simp to_z-of_z at c.sum.ensures.value in
    let made : c.new.result ≡ fractions.reduced
    (fractions.fraction c.from.result c.from-2.result) = simp to_z-of_z at c.new.ensures.value in
    let num : c.from.result ≡ c.args.z *ℤ c.args.den +ℤ c.args.num *ℤ c.args.d =
    wide ∙ total ∙ ap (λ t. t +ℤ c.times-2.result) first ∙ ap (λ t. c.args.z *ℤ c.args.den +ℤ t) (second
    ∙ product_swapped c.args.d c.args.num) in
    made ∙ ap (λ t. fractions.reduced (fractions.fraction t c.from-2.result)) num
    ∙ ap (λ t. fractions.reduced (fractions.fraction (c.args.z *ℤ c.args.den +ℤ c.args.num *ℤ c.args.d) t)) wide_too
    ∙ ap fractions.reduced (fraction_up (c.args.z *ℤ c.args.den +ℤ c.args.num *ℤ c.args.d) c.args.den
    c.requires.positive)

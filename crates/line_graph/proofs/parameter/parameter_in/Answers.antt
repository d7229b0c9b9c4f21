use Rattle.std.proofs.Common.{◌≡◌, ◌≢◌, ◌^◌, ◌*◌, ◌*ℤ◌, pos, sym, subst, FitsSigned, w64, rules, lit≤}
use Rattle.std.proofs.lemmas.Int.{to_z-of_z}
use Rattle.exact_geom.proofs.Lowest.{within_more}
use Rattle.line_graph.proofs.Stretches.{product_some}
use Rattle.line_graph.proofs.parameter.parameter_in.Goals as goal

pub over-requires-clause-den_in : goal.over-requires-clause-den_in
over-requires-clause-den_in c =
    let fits : FitsSigned w64 c.scaled-2.result = search rules in
    rw (to_z-of_z w64 c.scaled-2.result fits)
    (within_more (400000 * 10 ^ 12) (10 ^ 18) c.scaled-2.result (lit≤ tt) c.scaled-2.ensures.within)

pub over-requires-clause-nonzero : goal.over-requires-clause-nonzero
over-requires-clause-nonzero c =
    let fits : FitsSigned w64 c.scaled-2.result = search rules in
    let fits_d : FitsSigned w64 c.args.d = c.ranges.d in
    let fits_den : FitsSigned w64 c.denominator-den.result = search rules in
    let wide : c.scaled-2.result ≡ c.args.d *ℤ c.denominator-den.result = simp to_z-of_z at c.scaled-2.ensures.value in
    rw (to_z-of_z w64 c.scaled-2.result fits)
    (subst (λ t. t ≢ pos 0) (sym wide)
    (product_some c.args.d c.denominator-den.result c.requires.nonzero c.denominator-den.ensures.positive))

use Rattle.std.proofs.Common.{◌≡◌, ◌^◌, ◌*ℤ◌, ◌+ℤ◌, pos, lit≤, sym, ap, subst, ◌∙◌, rules}
use Rattle.std.specs.Prelude.{FitsSigned}
use Rattle.std.proofs.lemmas.Int.{to_z-of_z}
use mir.Syntax.{w64, w128}
use Rattle.plane_spec.specs.Vectors.{IsWithin}
use Rattle.plane_spec.specs.Fractions as fractions
use Rattle.exact_geom.specs.Parts.{HasPartsWithin}
use Rattle.exact_geom.proofs.Lowest.{within_more, reduced_no_larger}
use Rattle.exact_geom.proofs.rpoints.shifted.Goals as goal

den_within : (c : goal.After-moved) → IsWithin (pos (10 ^ 12)) c.den-den.result
den_within c = subst (λ z. IsWithin (pos (10 ^ 12)) z) (sym c.den-den.ensures.value) c.requires.t_in.den

pub lowest-requires-clause-num_in : goal.lowest-requires-clause-num_in
lowest-requires-clause-num_in c =
    let fits : FitsSigned w128 c.moved.result = search rules in
    rw (to_z-of_z w128 c.moved.result fits) (within_more (10 ^ 18) (10 ^ 36) c.moved.result (lit≤ tt) c.moved.ensures.within)

pub lowest-requires-clause-den_in : goal.lowest-requires-clause-den_in
lowest-requires-clause-den_in c =
    let fits : FitsSigned w128 c.den-den.result = search rules in
    rw (to_z-of_z w128 c.den-den.result fits) (within_more (10 ^ 12) (10 ^ 36) c.den-den.result (lit≤ tt) (den_within c))

parts_are : (c : goal.After-lowest) → c.lowest.result ≡ fractions.reduced (record { num = c.moved.result; den = c.den-den.result })
parts_are c =
    let num_fits : FitsSigned w128 c.moved.result = search rules in
    let den_fits : FitsSigned w128 c.den-den.result = search rules in
    simp to_z-of_z at c.lowest.ensures

moved_is : (c : goal.After-lowest) → c.moved.result ≡ c.args.z *ℤ c.den-den.result +ℤ c.num.result *ℤ c.args.d
moved_is c =
    let z_fits : FitsSigned w64 c.args.z = c.ranges.z in
    let d_fits : FitsSigned w64 c.args.d = c.ranges.d in
    let num_fits : FitsSigned w128 c.num.result = search rules in
    let den_fits : FitsSigned w128 c.den-den.result = search rules in
    simp to_z-of_z at c.moved.ensures.value

pub returns-clause-value : goal.returns-clause-value
returns-clause-value c =
    parts_are c
    ∙ ap (λ n. fractions.reduced (record { num = n; den = c.den-den.result })) (moved_is c)
    ∙ ap (λ d. fractions.reduced (record { num = c.args.z *ℤ d +ℤ c.num.result *ℤ c.args.d; den = d })) c.den-den.ensures.value
    ∙ ap (λ n. fractions.reduced (record { num = c.args.z *ℤ c.args.t.now.den +ℤ n *ℤ c.args.d; den = c.args.t.now.den })) c.num.ensures

pub returns-clause-within : goal.returns-clause-within
returns-clause-within c =
    subst (λ f. HasPartsWithin (pos (10 ^ 18)) f) (sym (parts_are c))
    (reduced_no_larger (10 ^ 18) (record { num = c.moved.result; den = c.den-den.result })
    (record { num = c.moved.ensures.within; den = within_more (10 ^ 12) (10 ^ 18) c.den-den.result (lit≤ tt) (subst (λ z. IsWithin (pos (10 ^ 12)) z) (sym c.den-den.ensures.value) c.requires.t_in.den) }))

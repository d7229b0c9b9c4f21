use Rattle.std.proofs.Common.{◌≡◌, pos, sym, subst, ◌∙◌, FitsSigned, w64, rules}
use Rattle.std.specs.Ordering.{int_eq}
use Rattle.std.proofs.lemmas.Int.{to_z-of_z}
use Rattle.line_graph.specs.Stretches.{parameter_in}
use Rattle.line_graph.proofs.Stretches.{parameter_upright, parameter_aside}
use Rattle.line_graph.proofs.stretch.parameter_of.Goals as goal

pub returns-then-is_zero : goal.returns-then-is_zero
returns-then-is_zero c =
    let fits_x : FitsSigned w64 c.args.d.x = search rules in
    let fits_p : FitsSigned w64 c.args.p.y = search rules in
    let fits_d : FitsSigned w64 c.args.d.y = search rules in
    let zero : c.is_zero.result ≡ int_eq c.args.d.x (pos 0) = simp to_z-of_z at c.is_zero.ensures in
    let here : c.parameter_in.result ≡ parameter_in c.args.p.y c.args.d.y c.end.inside.y =
    simp to_z-of_z at c.parameter_in.ensures in
    subst (λ v. c.parameter_in.result ≡ parameter_in c.args.p.y c.args.d.y v.y) c.end.view_is here
    ∙ parameter_upright c.args.p c.args.d c.args.end.now (sym zero ∙ c.if-is_zero.true)

pub returns-else-is_zero : goal.returns-else-is_zero
returns-else-is_zero c =
    let fits_p : FitsSigned w64 c.args.p.x = search rules in
    let fits_d : FitsSigned w64 c.args.d.x = search rules in
    let zero : c.is_zero.result ≡ int_eq c.args.d.x (pos 0) = simp to_z-of_z at c.is_zero.ensures in
    let r = c.parameter_in-else-is_zero.result in
    let here : r ≡ parameter_in c.args.p.x c.args.d.x c.end.inside.x =
    simp to_z-of_z at c.parameter_in-else-is_zero.ensures in
    subst (λ v. r ≡ parameter_in c.args.p.x c.args.d.x v.x) c.end.view_is here
    ∙ parameter_aside c.args.p c.args.d c.args.end.now (sym zero ∙ c.if-is_zero.false)

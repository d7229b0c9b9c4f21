use Rattle.std.proofs.Common.{ℕ, pos, ap, sym, subst, ◌∙◌, ◌+◌, ◌<◌, drop}
use Rattle.plane_spec.specs.Lists.{pairs}
use Rattle.plane_spec.specs.declared.Point.{Point}
use Rattle.plane_spec.specs.Vectors.{point}
use Rattle.plan_spec.specs.declared.limits.TheConstants.{MAX_AXIAL_LINES}
use Rattle.axial_lines.specs.Found.{lines_added}
use Rattle.axial_lines.proofs.Adding.{next_row, too_many_with_row}
use Rattle.axial_lines.proofs.engine.add_rows.Goals as goal

abbrev none : ℕ × Point
none = (0, point (pos 0) (pos 0))

pub loop-k-preserved : goal.loop-k-preserved
loop-k-preserved c =
    let ends = c.args.outlooks.now.ends in
    ap (λ ls. lines_added c.args.scene.now c.args.area ls (pairs (drop (c.loop-k.k + 1) ends)))
    c.in_default.ensures.added
    ∙ sym (next_row c.args.scene.now c.args.area ends c.loop-k.lines c.loop-k.k none
    (subst (λ n. c.loop-k.k < n) c.count-k-end.ensures c.loop-k-test.true))
    ∙ c.loop-k.invariant

pub returns-in-Err-clause-too_many : goal.returns-in-Err-clause-too_many
returns-in-Err-clause-too_many c =
    λ e. too_many_with_row c.args.scene.now c.args.area c.args.outlooks.now.ends c.loop-k.lines c.loop-k.k
    MAX_AXIAL_LINES _ none (subst (λ n. c.loop-k.k < n) c.count-k-end.ensures c.loop-k-test.true) c.loop-k.invariant
    (c.in-Err.ensures.too_many e)

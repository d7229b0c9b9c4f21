use Rattle.std.proofs.Common.{ℕ, pos, ap, sym, subst, ◌∙◌, ◌+◌, ◌<◌, drop, map}
use Rattle.plane_spec.specs.Lists.{with_each}
use Rattle.plane_spec.specs.declared.Point.{Point}
use Rattle.plane_spec.specs.Vectors.{point}
use Rattle.axial_lines.specs.Found.{lines_added}
use Rattle.axial_lines.specs.Looks.{end_at}
use Rattle.axial_lines.proofs.Adding.{next_pair, too_many_with_pair}
use Rattle.axial_lines.proofs.engine.add_row.Goals as goal

abbrev none : ℕ × Point
none = (0, point (pos 0) (pos 0))

pub loop-k-preserved : goal.loop-k-preserved
loop-k-preserved c =
    let ends = c.args.outlooks.now.ends in
    let first = end_at ends c.args.i in
    ap (λ ls. lines_added c.args.scene.now c.args.area ls (map (with_each first) (drop (c.loop-k.k + 1) ends)))
    c.in_default.ensures.added
    ∙ sym (next_pair c.args.scene.now c.args.area first ends c.loop-k.lines c.loop-k.k none
    (subst (λ n. c.loop-k.k < n) c.count-count.ensures c.loop-k-test.true))
    ∙ c.loop-k.invariant

pub returns-in-Err-clause-too_many : goal.returns-in-Err-clause-too_many
returns-in-Err-clause-too_many c =
    let ends = c.args.outlooks.now.ends in
    λ e. too_many_with_pair c.args.scene.now c.args.area (end_at ends c.args.i) ends c.loop-k.lines c.loop-k.k _ _ none
    (subst (λ n. c.loop-k.k < n) c.count-count.ensures c.loop-k-test.true) c.loop-k.invariant (c.in-Err.ensures.too_many e)

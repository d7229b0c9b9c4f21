use Rattle.std.proofs.Common.{◌∙◌, ◌+◌, Some, ap, drop, sym}
use Rattle.plane_spec.specs.Boxes.{with_points}
use Rattle.exact_geom.proofs.LeastBox.{next_point, none_left}
use Rattle.exact_geom.proofs.boxes.box_of.Goals as goal

pub loop-k-preserved : goal.loop-k-preserved
loop-k-preserved c =
    let points = c.args.points.now in
    let k = c.loop-k.k in
    ap (λ area. Some (with_points area (drop (k + 1) points))) c.with_point-area.ensures
    ∙ ap Some (next_point c.loop-k.area points k _ c.loop-k-test.true)
    ∙ c.loop-k.invariant

pub returns : goal.returns
returns c = ap Some (sym (none_left c.loop-k.area c.args.points.now c.loop-k.k c.loop-k-test.false)) ∙ c.loop-k.invariant

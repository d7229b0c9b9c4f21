use Rattle.std.proofs.Common.{◌∙◌, sym}
use Rattle.plane_spec.specs.Segments.{do_touch}
use Rattle.exact_geom.proofs.Edges.{none_left}
use Rattle.plan_check.proofs.polygons.touches_border.Goals as goal

pub returns : goal.returns
returns c = sym (c.loop-k.invariant ∙ none_left (λ e. do_touch c.args.from c.args.to e.a e.b) c.args.points.now c.loop-k.k c.loop-k-test.false)

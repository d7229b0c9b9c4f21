use Rattle.std.proofs.Common.{◌∙◌, sym}
use Rattle.plan_spec.specs.Accepted.{touches_border}
use Rattle.exact_geom.proofs.Edges.{none_left}
use Rattle.plan_check.proofs.polygons.borders_touch.Goals as goal

pub returns : goal.returns
returns c = sym (c.loop-k.invariant ∙ none_left (λ e. touches_border e.a e.b c.args.others.now) c.args.points.now c.loop-k.k c.loop-k-test.false)

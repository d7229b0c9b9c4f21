use Rattle.std.proofs.Common.{◌∙◌, sym}
use Rattle.plane_spec.specs.Polygons.{is_nothing}
use Rattle.exact_geom.proofs.Edges.{none_left}
use Rattle.plan_check.proofs.polygons.has_repeat.Goals as goal

pub returns : goal.returns
returns c = sym (c.loop-k.invariant ∙ none_left is_nothing c.args.points.now c.loop-k.k c.loop-k-test.false)

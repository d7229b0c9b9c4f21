use Rattle.std.proofs.Common.{◌∙◌, sym, length}
use Rattle.plane_spec.specs.Polygons.{may_be_edges}
use Rattle.plan_check.proofs.Edges.{all_left}
use Rattle.plan_check.proofs.polygons.fits_later_edges.Goals as goal

pub returns : goal.returns
returns c =
    sym (c.loop-j.invariant ∙ all_left (λ f. may_be_edges (length c.args.points.now) ((c.args.i, c.args.e), f)) c.args.points.now c.loop-j.j c.loop-j.j c.loop-j-test.false)

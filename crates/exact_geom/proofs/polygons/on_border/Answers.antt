use Rattle.std.proofs.Common.{◌∙◌, sym}
use Rattle.std.proofs.lemmas.List.Elements.{All-contains}
use Rattle.plane_spec.specs.Vectors.{InRange}
use Rattle.plane_spec.specs.Polygons.{is_on_edge}
use Rattle.exact_geom.proofs.Edges.{none_left}
use Rattle.exact_geom.proofs.polygons.on_border.Goals as goal

pub on_segment-requires-clause-a_in : goal.on_segment-requires-clause-a_in
on_segment-requires-clause-a_in c = All-contains InRange c.args.points.now c.edge-e.result.a c.requires.points_in c.edge-e.ensures.start

pub on_segment-requires-clause-b_in : goal.on_segment-requires-clause-b_in
on_segment-requires-clause-b_in c = All-contains InRange c.args.points.now c.edge-e.result.b c.requires.points_in c.edge-e.ensures.end

pub returns : goal.returns
returns c = sym (c.loop-k.invariant ∙ none_left (is_on_edge c.args.x) c.args.points.now c.loop-k.k c.loop-k-test.false)

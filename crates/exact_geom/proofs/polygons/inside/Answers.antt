use Rattle.std.proofs.Common.{◌∙◌, sym}
use Rattle.std.proofs.lemmas.List.Elements.{All-contains}
use Rattle.plane_spec.specs.Vectors.{InRange}
use Rattle.exact_geom.proofs.Parity.{answer_start, answer_all}
use Rattle.exact_geom.proofs.polygons.inside.Goals as goal

pub loop-k-init : goal.loop-k-init
loop-k-init c = answer_start c.args.x c.args.points.now

pub on_segment-requires-clause-a_in : goal.on_segment-requires-clause-a_in
on_segment-requires-clause-a_in c = All-contains InRange c.args.points.now c.edge-e.result.a c.requires.points_in c.edge-e.ensures.start

pub on_segment-requires-clause-b_in : goal.on_segment-requires-clause-b_in
on_segment-requires-clause-b_in c = All-contains InRange c.args.points.now c.edge-e.result.b c.requires.points_in c.edge-e.ensures.end

pub passes-requires-clause-a_in : goal.passes-requires-clause-a_in
passes-requires-clause-a_in c = All-contains InRange c.args.points.now c.edge-e.result.a c.requires.points_in c.edge-e.ensures.start

pub passes-requires-clause-b_in : goal.passes-requires-clause-b_in
passes-requires-clause-b_in c = All-contains InRange c.args.points.now c.edge-e.result.b c.requires.points_in c.edge-e.ensures.end

pub returns : goal.returns
returns c = sym (c.loop-k.invariant ∙ answer_all c.loop-k.odd c.args.x c.args.points.now c.loop-k.k c.loop-k-test.false)

use Rattle.std.proofs.Common.{◌∙◌, sym, ap, subst, map}
use Rattle.std.proofs.lemmas.List.{take_all}
use Rattle.std.proofs.lemmas.List.Elements.{All-get_or}
use Rattle.sight_spec.specs.Axial.{IsLineOf}
use Rattle.line_graph.specs.Rows.{AreMeasured}
use Rattle.line_graph.specs.Stretches.{stretch_of}
use Rattle.line_graph.proofs.Joins.{all_measured}
use Rattle.line_graph.proofs.rows.stretches_of.Goals as goal

pub stretch_of-requires : goal.stretch_of-requires
stretch_of-requires c =
    subst (IsLineOf c.args.scene.now) (sym c.line-item.is)
    (All-get_or (IsLineOf c.args.scene.now) c.args.lines.now c.loop-line.line-index c.line-item.result
    c.loop-line-test.true c.requires)

pub returns : goal.returns
returns c =
    let scene = c.args.scene.now in
    let lines = c.args.lines.now in
    let all = c.loop-line.invariant
    ∙ ap (map (stretch_of scene)) (take_all c.loop-line.line-index lines c.loop-line-test.false) in
    subst (λ list. AreMeasured list lines) (sym all)
    (all_measured scene lines c.corners-corners.ensures.of_plan c.requires)

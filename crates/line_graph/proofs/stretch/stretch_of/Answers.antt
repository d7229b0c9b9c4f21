use Rattle.std.proofs.Common.{◌≡◌, ◌<◌, length, sym, subst, ap, ◌∙◌}
use Rattle.plane_spec.specs.declared.Point.{Point}
use Rattle.plane_spec.specs.Vectors.{IsDirected, vector}
use Rattle.sight_spec.specs.Scene.{Scene}
use Rattle.sight_spec.specs.Axial.{AxialLine}
use Rattle.sight_spec.specs.Dirty.{corner_point}
use Rattle.line_graph.specs.Lines.{IsThroughCorners}
use Rattle.line_graph.specs.Measured.{IsMeasured}
use Rattle.line_graph.proofs.Lines.{line_is_through}
use Rattle.line_graph.proofs.Ends.{first_of, second_of, from_small, to_small}
use Rattle.line_graph.proofs.Stretches.{directed, line_is_measured, stretch_is}
use Rattle.line_graph.proofs.stretch.stretch_of.Goals as goal

first_is : (scene : Scene) (p : Point) (inside l : AxialLine) → inside ≡ l → p ≡ corner_point scene inside.first
    → p ≡ first_of scene l
first_is scene p inside l same e = e ∙ ap (λ m. corner_point scene m.first) same

second_is : (scene : Scene) (p : Point) (inside l : AxialLine) → inside ≡ l → p ≡ corner_point scene inside.second
    → p ≡ second_of scene l
second_is scene p inside l same e = e ∙ ap (λ m. corner_point scene m.second) same

differing : (scene : Scene) (p q : Point) (l : AxialLine) → p ≡ first_of scene l → q ≡ second_of scene l
    → IsThroughCorners scene l → IsDirected (vector p q)
differing scene p q l e f h =
    let P : Point → Type 0 = λ z. IsDirected (vector z q) in
    let Q : Point → Type 0 = λ z. IsDirected (vector (first_of scene l) z) in
    subst P (sym e) (subst Q (sym f) (directed (first_of scene l) (second_of scene l) h.differ))

pub corner_at-requires : goal.corner_at-requires
corner_at-requires c =
    let scene = c.args.scene.now in
    let through = line_is_through scene c.corners-corners.ensures.of_plan c.args.line.now c.requires in
    subst (λ l. l.first < length scene.corners) (sym c.line.view_is) through.first.below

pub corner_at-requires-2 : goal.corner_at-requires-2
corner_at-requires-2 c =
    let scene = c.args.scene.now in
    let through = line_is_through scene c.corners-corners.ensures.of_plan c.args.line.now c.requires in
    subst (λ l. l.second < length scene.corners) (sym c.line.view_is) through.second.below

pub stretch_between-requires-clause-directed : goal.stretch_between-requires-clause-directed
stretch_between-requires-clause-directed c =
    let scene = c.args.scene.now in
    let l = c.args.line.now in
    differing scene c.corner_at.result c.corner_at-2.result l
    (first_is scene c.corner_at.result _ l c.line.view_is c.corner_at.ensures.point)
    (second_is scene c.corner_at-2.result _ l c.line.view_is c.corner_at-2.ensures.point)
    (line_is_through scene c.corners-corners.ensures.of_plan l c.requires)

pub stretch_between-requires-clause-from_in : goal.stretch_between-requires-clause-from_in
stretch_between-requires-clause-from_in c =
    let sound = c.corners-corners.ensures.of_plan in
    from_small c.args.scene.now c.args.line.now sound
    (line_is_through c.args.scene.now sound c.args.line.now c.requires)

pub stretch_between-requires-clause-to_in : goal.stretch_between-requires-clause-to_in
stretch_between-requires-clause-to_in c =
    let sound = c.corners-corners.ensures.of_plan in
    to_small c.args.scene.now c.args.line.now sound
    (line_is_through c.args.scene.now sound c.args.line.now c.requires)

pub returns-clause-value : goal.returns-clause-value
returns-clause-value c =
    let scene = c.args.scene.now in
    let l = c.args.line.now in
    c.stretch_between.ensures
    ∙ stretch_is scene l c.corner_at.result c.corner_at-2.result
    (first_is scene c.corner_at.result _ l c.line.view_is c.corner_at.ensures.point)
    (second_is scene c.corner_at-2.result _ l c.line.view_is c.corner_at-2.ensures.point)

pub returns-clause-measured : goal.returns-clause-measured
returns-clause-measured c =
    let scene = c.args.scene.now in
    let l = c.args.line.now in
    let sound = c.corners-corners.ensures.of_plan in
    let same = c.stretch_between.ensures
    ∙ stretch_is scene l c.corner_at.result c.corner_at-2.result
    (first_is scene c.corner_at.result _ l c.line.view_is c.corner_at.ensures.point)
    (second_is scene c.corner_at-2.result _ l c.line.view_is c.corner_at-2.ensures.point) in
    subst (λ s. IsMeasured s l) (sym same)
    (line_is_measured scene l sound (line_is_through scene sound l c.requires))

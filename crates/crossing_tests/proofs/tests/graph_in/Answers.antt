use Rattle.std.proofs.Common.{sym, subst, All}
use Rattle.std.proofs.lemmas.List.Elements.{All-contains_itself}
use Rattle.sight_spec.specs.Axial.{IsLineOf, axial_lines}
use Rattle.crossing_tests.proofs.tests.graph_in.Goals as goal

pub crossing_graph-requires-clause-of_scene : goal.crossing_graph-requires-clause-of_scene
crossing_graph-requires-clause-of_scene g c =
    let scene = c.args.scene.now in
    subst (λ lines. All (IsLineOf scene) lines) (sym c.requires.lines) (All-contains_itself (axial_lines scene))

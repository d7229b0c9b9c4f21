use Rattle.std.proofs.Common.{◌∙◌, ◌≡◌, ◌∷◌, ◌++◌, [], ap, false, length, List, not, refl, subst, sym, true, ◌<◌, ℕ}
use Rattle.sight_spec.specs.Scene.{scene_of}
use Rattle.sight_spec.specs.Axial.{axial_lines, crossing_graph}
use Rattle.plan_answers.proofs.Places.{lines_of_scene}
use Rattle.plan_answers.proofs.found.line_measures.Goals as goal

pub crossing_graph-requires-clause-of_scene : goal.crossing_graph-requires-clause-of_scene
crossing_graph-requires-clause-of_scene g c =
    lines_of_scene _ _ (c.lines.ensures.lines ∙ ap axial_lines (sym c.scene.ensures))

use Rattle.std.proofs.Common.{refl, ap, ◌∙◌}
use Rattle.sight_spec.specs.Stops.{stop_of}
use Rattle.view_laws.specs.Views.{is_in_arc}
use Rattle.axial_lines.proofs.Seeing.{stop_told}
use Rattle.axial_lines.proofs.seen.stop_seen.Goals as goal

pub answer_by-requires-clause-askable : goal.answer_by-requires-clause-askable
answer_by-requires-clause-askable c = record { direction = c.requires.d_in; directed = c.requires.directed }

pub answer_by-requires-clause-in_arc : goal.answer_by-requires-clause-in_arc
unfolding is_in_arc
answer_by-requires-clause-in_arc c = refl

pub returns-in-Reach : goal.returns-in-Reach
returns-in-Reach c =
    stop_told c.args.table.now c.args.p c.args.d c.answer_by.result c.in-Reach.stop c.in-Reach._wall c.in-Reach.is
    c.answer_by.ensures
    ∙ ap (λ scene. stop_of scene c.args.p c.args.d) c.requires.of_scene

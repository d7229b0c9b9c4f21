use Rattle.std.proofs.Common.{◌∙◌, ap, sym}
use Rattle.sight_spec.specs.Stops.{stop_of}
use Rattle.axial_lines.proofs.Seeing.{stop_bounded}
use Rattle.axial_lines.proofs.seen.stop_beyond.Goals as goal

pub returns-in-Some-clause-parts_bounded : goal.returns-in-Some-clause-parts_bounded
returns-in-Some-clause-parts_bounded c =
    stop_bounded c.args.table.now c.args.p c.heading-d.result c.stop_seen.result c.requires.of_plan c.requires.p_in
    c.heading-d.ensures.direction
    (c.stop_seen.ensures ∙ ap (λ scene. stop_of scene c.args.p c.heading-d.result) (sym c.requires.of_scene))

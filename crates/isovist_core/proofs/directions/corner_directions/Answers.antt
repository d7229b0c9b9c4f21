use Rattle.std.proofs.Common.{ap, map, ◌∙◌}
use Rattle.isovist_core.specs.Headings.{step_of}
use Rattle.isovist_core.proofs.Sorting.{sorted_directions}
use Rattle.isovist_core.proofs.directions.corner_directions.Goals as goal

pub returns-clause-directions : goal.returns-clause-directions
returns-clause-directions c =
    ap (map step_of) c.drop_repeats.ensures
    ∙ sorted_directions c.args.scene.now c.args.p c.in_ok-headings.headings.items c.sort_headings.new.headings.items
    c.in_ok-headings.ensures.vectors c.in_ok-sort_headings.ensures.sorted c.in_ok-sort_headings.ensures.stable

use Rattle.std.proofs.Common.{◌+◌, ◌∙◌, drop, sym, ap}
use Rattle.std.specs.List.{filter_map}
use Rattle.sight_spec.specs.Stops.{corner_hit}
use Rattle.sight_spec.specs.Stops.{nearer}
use Rattle.sight_core.specs.Hits.{min_from}
use Rattle.sight_core.proofs.Nearest.{least_from_more, least_from_all}
use Rattle.sight_core.proofs.stops.nearest_corner.Goals as goal

pub loop-corner-preserved : goal.loop-corner-preserved
loop-corner-preserved c =
    let hit = c.nearer-nearest.ensures ∙ ap (nearer c.loop-corner.nearest) c.corner_hit.ensures in
    c.loop-corner.invariant
    ∙ least_from_more (corner_hit c.args.p c.args.d) c.loop-corner.nearest c.args.corners.now c.loop-corner.corner-index _ c.loop-corner-test.true
    ∙ ap (λ t. min_from t (filter_map (corner_hit c.args.p c.args.d) (drop (c.loop-corner.corner-index + 1) c.args.corners.now))) (sym hit)

pub returns : goal.returns
returns c =
    sym (c.loop-corner.invariant ∙ least_from_all (corner_hit c.args.p c.args.d) c.loop-corner.nearest c.args.corners.now c.loop-corner.corner-index c.loop-corner-test.false)

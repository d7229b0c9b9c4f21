use Rattle.std.proofs.Common.{◌+◌, ◌∙◌, drop, sym, ap}
use Rattle.std.specs.List.{filter_map}
use Rattle.sight_spec.specs.Stops.{start_hit}
use Rattle.sight_spec.specs.Stops.{nearer}
use Rattle.sight_core.specs.Hits.{min_from}
use Rattle.sight_core.proofs.Nearest.{least_from_more, least_from_all}
use Rattle.sight_core.proofs.stops.nearest_start.Goals as goal

pub loop-wall-preserved : goal.loop-wall-preserved
loop-wall-preserved c =
    let hit = c.nearer-nearest.ensures ∙ ap (nearer c.loop-wall.nearest) c.start_hit.ensures in
    c.loop-wall.invariant
    ∙ least_from_more (start_hit c.args.p c.args.d) c.loop-wall.nearest c.args.walls.now c.loop-wall.wall-index _ c.loop-wall-test.true
    ∙ ap (λ t. min_from t (filter_map (start_hit c.args.p c.args.d) (drop (c.loop-wall.wall-index + 1) c.args.walls.now))) (sym hit)

pub returns : goal.returns
returns c =
    sym (c.loop-wall.invariant ∙ least_from_all (start_hit c.args.p c.args.d) c.loop-wall.nearest c.args.walls.now c.loop-wall.wall-index c.loop-wall-test.false)

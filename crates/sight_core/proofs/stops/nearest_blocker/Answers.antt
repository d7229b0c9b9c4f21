use Rattle.std.proofs.Common.{◌+◌, ◌∙◌, drop, sym, ap}
use Rattle.std.specs.List.{filter_map}
use Rattle.sight_spec.specs.Stops.{blocker_hit}
use Rattle.sight_spec.specs.Stops.{nearer}
use Rattle.sight_core.specs.Hits.{min_from}
use Rattle.sight_core.proofs.Nearest.{least_from_more, least_from_all}
use Rattle.sight_core.proofs.stops.nearest_blocker.Goals as goal

pub loop-line-preserved : goal.loop-line-preserved
loop-line-preserved c =
    let hit = c.nearer-nearest.ensures ∙ ap (nearer c.loop-line.nearest) c.blocker_hit.ensures in
    c.loop-line.invariant
    ∙ least_from_more (blocker_hit c.args.p c.args.d) c.loop-line.nearest c.args.lines.now c.loop-line.line-index _ c.loop-line-test.true
    ∙ ap (λ t. min_from t (filter_map (blocker_hit c.args.p c.args.d) (drop (c.loop-line.line-index + 1) c.args.lines.now))) (sym hit)

pub returns : goal.returns
returns c =
    sym (c.loop-line.invariant ∙ least_from_all (blocker_hit c.args.p c.args.d) c.loop-line.nearest c.args.lines.now c.loop-line.line-index c.loop-line-test.false)

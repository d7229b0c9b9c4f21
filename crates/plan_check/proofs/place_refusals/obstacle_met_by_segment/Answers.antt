use Rattle.plan_check.proofs.Ranges.{next_obstacle_in}
use Rattle.plan_check.proofs.place_refusals.obstacle_met_by_segment.Goals as goal

pub segment_meets_polygon-requires-clause-points_in : goal.segment_meets_polygon-requires-clause-points_in
segment_meets_polygon-requires-clause-points_in c = next_obstacle_in c.args.draft.now c.loop-k.k _ _ c.obstacle.result.now c.requires.sound c.obstacle.ensures.next c.obstacle.ensures.points

use Rattle.plan_back.proofs.Accepted.{if_ok, obstacle_within, obstacle_accepted, obstacle_checked}
use Rattle.plan_back.proofs.placing.with_obstacle_at.Goals as goal

pub plan_with_item_at-requires-clause-within : goal.plan_with_item_at-requires-clause-within
plan_with_item_at-requires-clause-within c = rw c.items_before_obstacles.ensures.count (obstacle_within c.args.plan.now c.args.place c.requires.place)

pub plan_with_item_at-requires-clause-accepted : goal.plan_with_item_at-requires-clause-accepted
plan_with_item_at-requires-clause-accepted c =
    rw (c.items_before_obstacles.ensures.count, c.copy.ensures, c.in_ok-copied_points.ensures)
    (obstacle_accepted c.args.plan.now c.args.place c.args.name.now c.args.points.now c.items_before_obstacles.ensures.sound c.requires.valid c.requires.place)

pub returns : goal.returns
returns c =
    if_ok _ _
    (obstacle_checked c.args.plan.now c.args.place c.args.name.now c.args.points.now c.items_before_obstacles.ensures.sound c.requires.valid c.requires.place)
    c.plan_with_item_at.result
    (rw (c.items_before_obstacles.ensures.count, c.copy.ensures, c.in_ok-copied_points.ensures) at c.plan_with_item_at.ensures)

use Rattle.std.proofs.Common.{arith}
use Rattle.plan_laws.proofs.Ranges.{sound_limits}
use Rattle.plan_back.proofs.Few.{few_before_obstacles}
use Rattle.plan_back.proofs.Accepted.{if_ok, route_within, route_accepted, route_checked}
use Rattle.plan_back.proofs.placing.with_route_at.Goals as goal

pub overflow_add-items_before_routes : goal.overflow_add-items_before_routes
overflow_add-items_before_routes c =
    let limits = sound_limits c.args.plan.now c.items_before_routes.ensures.sound in
    omega (arith, limits.obstacles, limits.screens, limits.routes, few_before_obstacles c.args.plan.now, c.items_before_routes.ensures.count, c.requires.place)

pub plan_with_item_at-requires-clause-within : goal.plan_with_item_at-requires-clause-within
plan_with_item_at-requires-clause-within c = rw c.items_before_routes.ensures.count (route_within c.args.plan.now c.args.place c.requires.place)

pub plan_with_item_at-requires-clause-accepted : goal.plan_with_item_at-requires-clause-accepted
plan_with_item_at-requires-clause-accepted c =
    rw (c.items_before_routes.ensures.count, c.copy.ensures)
    (route_accepted c.args.plan.now c.args.place c.args.name.now c.args.from c.args.to c.items_before_routes.ensures.sound c.requires.valid c.requires.place)

pub returns : goal.returns
returns c =
    if_ok _ _
    (route_checked c.args.plan.now c.args.place c.args.name.now c.args.from c.args.to c.items_before_routes.ensures.sound c.requires.valid c.requires.place)
    c.plan_with_item_at.result
    (rw (c.items_before_routes.ensures.count, c.copy.ensures) at c.plan_with_item_at.ensures)

use Rattle.plan_check.proofs.Ranges.{next_route_in}
use Rattle.plan_check.proofs.place_refusals.route_overlapped.Goals as goal

pub lines_overlap-requires-clause-a_in : goal.lines_overlap-requires-clause-a_in
lines_overlap-requires-clause-a_in c = (next_route_in c.args.draft.now _ c.route-route.result _ c.requires.sound c.route-route.ensures).from_in

pub lines_overlap-requires-clause-b_in : goal.lines_overlap-requires-clause-b_in
lines_overlap-requires-clause-b_in c = (next_route_in c.args.draft.now _ c.route-route.result _ c.requires.sound c.route-route.ensures).to_in

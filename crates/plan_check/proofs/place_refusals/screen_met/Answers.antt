use Rattle.plan_check.proofs.Ranges.{next_screen_in}
use Rattle.plan_check.proofs.place_refusals.screen_met.Goals as goal

pub segment_meets_polygon-requires-clause-from_in : goal.segment_meets_polygon-requires-clause-from_in
segment_meets_polygon-requires-clause-from_in c = (next_screen_in c.args.draft.now c.loop-k.k c.screen-screen.result _ c.requires.sound c.screen-screen.ensures).from_in

pub segment_meets_polygon-requires-clause-to_in : goal.segment_meets_polygon-requires-clause-to_in
segment_meets_polygon-requires-clause-to_in c = (next_screen_in c.args.draft.now c.loop-k.k c.screen-screen.result _ c.requires.sound c.screen-screen.ensures).to_in

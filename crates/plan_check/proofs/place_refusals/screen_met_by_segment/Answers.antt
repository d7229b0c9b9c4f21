use Rattle.plan_check.proofs.Ranges.{next_screen_in}
use Rattle.plan_check.proofs.place_refusals.screen_met_by_segment.Goals as goal

pub touch-requires-clause-a_in : goal.touch-requires-clause-a_in
touch-requires-clause-a_in c = (next_screen_in c.args.draft.now c.loop-k.k c.screen-screen.result _ c.requires.sound c.screen-screen.ensures).from_in

pub touch-requires-clause-b_in : goal.touch-requires-clause-b_in
touch-requires-clause-b_in c = (next_screen_in c.args.draft.now c.loop-k.k c.screen-screen.result _ c.requires.sound c.screen-screen.ensures).to_in

use Rattle.std.proofs.Common.{◌≤◌, length, sym, subst, rules}
use Rattle.sight_sweep.specs.Events.{AreFirstEvents}
use Rattle.sight_sweep.specs.LeftOut.{is_set}
use Rattle.sight_sweep.proofs.Listing.{no_events, all_listed}
use Rattle.sight_sweep.proofs.events.corner_events.Goals as goal

pub loop-number-init : goal.loop-number-init
loop-number-init c = subst (AreFirstEvents c.args.table.now.corners c.args.p c.args.arc (is_set c.args.shown.now) 0)
    (sym c.in_ok-events.ensures) (no_events c.args.table.now.corners c.args.p c.args.arc (is_set c.args.shown.now))

pub loop-number-preserved : goal.loop-number-preserved
loop-number-preserved c = c.in_ok-push_if_in_arc.ensures c.loop-number.invariant

pub returns-clause-listed : goal.returns-clause-listed
returns-clause-listed c =
    let end : length c.args.table.now.corners ≤ c.loop-number.number = search rules in
    all_listed c.args.table.now.corners c.args.p c.args.arc (is_set c.args.shown.now) c.loop-number.number
    c.loop-number.events.items end
    c.loop-number.invariant

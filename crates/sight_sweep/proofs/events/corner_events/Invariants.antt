use Rattle.sight_sweep.specs.Events.{AreFirstEvents}
use Rattle.sight_sweep.specs.LeftOut.{is_set}
use Rattle.sight_sweep.proofs.events.corner_events.Given as goal

abbrev pub invariant-loop-number : goal.invariant-loop-number
invariant-loop-number l = AreFirstEvents l.table.corners l.p l.arc (is_set l.shown) l.number l.events.items

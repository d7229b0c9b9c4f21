use Rattle.std.proofs.Common.{◌≡◌, drop}
use Rattle.std.specs.Prelude.{None}
use Rattle.sight_sweep.specs.Rounds.{least_from, leads_ahead, far_of}
use Rattle.sight_sweep.proofs.round.nearest_ahead.Given as goal

abbrev pub invariant-loop-k : goal.invariant-loop-k
invariant-loop-k l = least_from (leads_ahead l.p l.table.corners) (far_of l.p l.table.corners) l.least
    (drop l.k l.group) ≡ least_from (leads_ahead l.p l.table.corners) (far_of l.p l.table.corners) None l.group

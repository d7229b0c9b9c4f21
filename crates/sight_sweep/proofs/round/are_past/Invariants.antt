use Rattle.std.proofs.Common.{◌≡◌, ℕ, ◌<◌, get_or}
use Rattle.std.specs.Prelude.{true}
use Rattle.sight_sweep.specs.Actives.{first_of}
use Rattle.sight_sweep.specs.Events.{way_at, corner_of}
use Rattle.sight_sweep.specs.Rounds.{is_past}
use Rattle.sight_sweep.proofs.round.are_past.Given as goal

abbrev pub invariant-loop-k : goal.invariant-loop-k
invariant-loop-k l = (i d : ℕ) → i < l.k
    → is_past (first_of l.active) (way_at l.p l.table.corners (corner_of (get_or l.group i d))) ≡ true

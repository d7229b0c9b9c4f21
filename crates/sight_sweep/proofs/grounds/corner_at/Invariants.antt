use Rattle.std.proofs.Common.{◌≡◌, ◌<◌, ℕ, get_or}
use Rattle.std.specs.Prelude.{false}
use Rattle.sweep_laws.specs.Groups.{no_corner}
use Rattle.station_laws.specs.Grounds.{is_at}
use Rattle.sight_sweep.proofs.grounds.corner_at.Given as goal

abbrev pub invariant-loop-k : goal.invariant-loop-k
invariant-loop-k l = (j : ℕ) → j < l.k → is_at l.p (get_or l.corners j no_corner) ≡ false

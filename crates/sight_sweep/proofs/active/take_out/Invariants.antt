use Rattle.std.proofs.Common.{◌≡◌, ◌≢◌, ℕ, ◌<◌, get_or}
use Rattle.sight_sweep.specs.declared.blocker.Blocker.{Blocker}
use Rattle.sight_sweep.proofs.active.take_out.Given as goal

-- the list is as it was, and none before the place has the number
abbrev pub invariant-loop-place : goal.invariant-loop-place
invariant-loop-place l = (l.active.items ≡ l.fn.active.items)
    × ((k : ℕ) (d : Blocker) → k < l.place → (get_or l.active.items k d).number ≢ l.number)

use Rattle.std.proofs.Common.{◌≡◌, ◌<◌, ℕ, get_or}
use Rattle.std.specs.Prelude.{false}
use Rattle.sight_spec.specs.Sight.{is_in_interior}
use Rattle.sight_spec.specs.Isovist.{no_segment}
use Rattle.sight_sweep.proofs.grounds.wall_at.Given as goal

abbrev pub invariant-loop-k : goal.invariant-loop-k
invariant-loop-k l = (j : ℕ) → j < l.k → is_in_interior l.p (get_or l.walls j no_segment) ≡ false

use Rattle.std.proofs.Common.{◌≡◌, ℕ, ◌<◌, get_or}
use Rattle.std.specs.Prelude.{true, false}
use Rattle.sight_sweep.specs.declared.blocker.Blocker.{Blocker}
use Rattle.sight_sweep.specs.LeftOut.{is_set}
use Rattle.sight_sweep.proofs.hiding.keep_covers.Given as goal

abbrev pub invariant-loop-k : goal.invariant-loop-k
invariant-loop-k l =
    ((i : ℕ) (d : Blocker) → i < l.k → is_set l.kept (get_or l.covers i d).number ≡ true)
    × ((n : ℕ) → is_set l.kept n ≡ false → is_set l.fn.kept n ≡ false)

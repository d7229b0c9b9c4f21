use Rattle.std.proofs.Common.{◌≡◌, ℕ, ◌<◌, get_or}
use Rattle.std.specs.Prelude.{true}
use Rattle.plane_spec.specs.Vectors.{is_upper}
use Rattle.sight_spec.specs.declared.target.Target.{Target}
use Rattle.sight_sweep.specs.Answers.{way_of}
use Rattle.sight_sweep.proofs.answering.are_later.Given as goal

abbrev pub invariant-loop-k : goal.invariant-loop-k
invariant-loop-k l = (j : ℕ) (d : Target) → j < l.k → is_upper (way_of l.p (get_or l.targets j d)) ≡ true

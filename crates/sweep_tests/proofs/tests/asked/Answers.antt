use Rattle.std.proofs.Common.{ℕ, zero, suc, ◌<◌, arith, [], ◌∷◌, get_or}
use Rattle.plane_spec.specs.declared.Point.{Point}
use Rattle.sight_spec.specs.declared.target.Target.{Target}
use Rattle.sight_sweep.specs.Answers.{MayBeAsked}
use Rattle.sweep_tests.proofs.tests.asked.Goals as goal

alone : (p : Point) (t : Target) → MayBeAsked p t → (k : ℕ) (d : Target) → k < 1 → MayBeAsked p (get_or (t ∷ []) k d)
alone p t may zero d lt = may
alone p t may (suc k) d lt = absurd (omega (arith, lt))

pub sweep-requires-clause-askable : goal.sweep-requires-clause-askable
sweep-requires-clause-askable g c = alone c.args.p c.args.target c.requires.askable

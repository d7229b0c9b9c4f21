use Rattle.std.proofs.Common.{◌≡◌, ◌++◌}
use Rattle.report_spec.specs.Trial.{trial_items}
use Rattle.trial_gen.proofs.BoxByBox.{boxes_from}
use Rattle.trial_gen.proofs.plans.trial.Given as goal

abbrev pub invariant-loop-i : goal.invariant-loop-i
invariant-loop-i l = l.items ++ boxes_from l.n l.c l.i ≡ trial_items l.n

use Rattle.std.proofs.Common.{◌≡◌, ◌≤◌, ◌-◌}
use Rattle.report_spec.specs.Trial.{root_above, root_from}
use Rattle.trial_gen.proofs.plans.root_above.Given as goal

abbrev pub invariant-loop-root : goal.invariant-loop-root
invariant-loop-root l = record {
  sought : root_from l.n l.root (l.n - l.root) ≡ root_above l.n;
  few : l.root ≤ 16;
  below : l.root ≤ l.n;
}

abbrev pub decreases-loop-root : goal.decreases-loop-root
decreases-loop-root l = 16 - l.root

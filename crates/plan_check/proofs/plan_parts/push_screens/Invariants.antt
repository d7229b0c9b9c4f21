use Rattle.std.specs.Prelude.{◌≡◌, ◌++◌, drop, map}
use Rattle.plan_spec.specs.Plan.{screen_item}
use Rattle.plan_check.proofs.plan_parts.push_screens.Given as goal

abbrev pub invariant-loop-k : goal.invariant-loop-k
invariant-loop-k l = l.items ++ map screen_item (drop l.k l.draft.screens) ≡ l.initial.items ++ map screen_item l.draft.screens

use Rattle.std.specs.Prelude.{◌≡◌, drop}
use Rattle.plan_spec.specs.Plan.{is_screen_named}
use Rattle.plan_back.specs.Places.{first_from}
use Rattle.plan_back.proofs.inverting.put_screen.Given as goal

abbrev pub invariant-loop-k : goal.invariant-loop-k
invariant-loop-k l =
    first_from l.k (is_screen_named l.name) (drop l.k l.plan.screens) ≡ first_from 0 (is_screen_named l.name) l.plan.screens

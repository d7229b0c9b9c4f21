use Rattle.std.specs.Prelude.{◌≡◌, drop}
use Rattle.plan_spec.specs.Refusals.{first_screen, screens_met}
use Rattle.plan_check.proofs.place_refusals.screen_met.Given as goal

abbrev pub invariant-loop-k : goal.invariant-loop-k
invariant-loop-k l =
    first_screen (screens_met l.points (drop l.k l.draft.screens))
    ≡ first_screen (screens_met l.points l.draft.screens)

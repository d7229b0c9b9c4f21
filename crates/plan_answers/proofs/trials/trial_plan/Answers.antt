use Rattle.std.proofs.Common.{◌∙◌, ◌≡◌, ◌∷◌, ◌++◌, [], ap, false, length, List, not, refl, subst, sym, true, ◌<◌, ℕ}
use Rattle.plan_spec.specs.Plan.{empty_plan, with_items}
use Rattle.report_spec.specs.Trial.{trial_plan}
use Rattle.plan_laws.proofs.Checking.{checked_is}
use Rattle.plan_answers.proofs.trials.trial_plan.Goals as goal

pub returns-in-Ok : goal.returns-in-Ok
unfolding trial_plan
returns-in-Ok c =
    checked_is _ _ c.in-Ok.ensures.plan ∙ ap (with_items empty_plan) c.in_ok-items.ensures.items

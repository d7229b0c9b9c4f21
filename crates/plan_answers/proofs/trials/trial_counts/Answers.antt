use Rattle.std.proofs.Common.{◌∙◌, ap}
use Rattle.plan_edit.specs.Sessions.{Session}
use Rattle.plan_answers.proofs.TrialSums.{counted}
use Rattle.plan_answers.proofs.trials.trial_counts.Goals as goal

pub returns : goal.returns
returns g c =
    counted c.counts_of.result c.args.boxes _ _ (ap (λ (s : Session). s.plan) c.in_ok-session.ensures ∙ c.in_ok-plan.ensures) c.counts_of.ensures

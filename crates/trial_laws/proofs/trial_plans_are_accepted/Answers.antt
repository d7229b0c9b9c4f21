use Rattle.trial_laws.proofs.Accepted.{trial_is_accepted}
use Rattle.trial_laws.proofs.trial_plans_are_accepted.Goals as goal

pub returns : goal.returns
returns c = trial_is_accepted

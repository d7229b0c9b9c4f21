use Rattle.plan_laws.proofs.Checking.{accepted_is_ok, checked_is, checked_is_sound}
use Rattle.plan_laws.proofs.checking_items.Goals as goal

pub returns-clause-accepted : goal.returns-clause-accepted
returns-clause-accepted c = accepted_is_ok

pub returns-clause-plan : goal.returns-clause-plan
returns-clause-plan c = checked_is

pub returns-clause-sound : goal.returns-clause-sound
returns-clause-sound c = checked_is_sound

use Rattle.plan_back.proofs.Backs.{changed_is_sound, inverse_takes_back}
use Rattle.plan_back.proofs.laws.taking_back.Goals as goal

pub returns-clause-sound : goal.returns-clause-sound
returns-clause-sound c = changed_is_sound

pub returns-clause-back : goal.returns-clause-back
returns-clause-back c = inverse_takes_back

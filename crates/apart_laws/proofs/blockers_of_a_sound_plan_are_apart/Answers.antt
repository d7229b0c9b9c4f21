use Rattle.apart_laws.proofs.Plans.{blockers_apart}
use Rattle.apart_laws.proofs.blockers_of_a_sound_plan_are_apart.Goals as goal

pub returns : goal.returns
returns c = blockers_apart

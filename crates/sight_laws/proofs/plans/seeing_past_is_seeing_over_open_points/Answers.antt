use Rattle.sight_laws.proofs.Past.{past_is_over}
use Rattle.sight_laws.proofs.plans.seeing_past_is_seeing_over_open_points.Goals as goal

pub returns : goal.returns
returns c = past_is_over

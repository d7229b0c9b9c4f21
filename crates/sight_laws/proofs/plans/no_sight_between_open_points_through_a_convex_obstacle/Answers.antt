use Rattle.sight_laws.proofs.Past.{unseen_between_open}
use Rattle.sight_laws.proofs.plans.no_sight_between_open_points_through_a_convex_obstacle.Goals as goal

pub returns : goal.returns
returns c = unseen_between_open

use Rattle.sight_laws.proofs.Passing.{through_blocked}
use Rattle.sight_laws.proofs.Past.{through_unseen}
use Rattle.sight_laws.proofs.obstacles.no_sight_through_a_convex_obstacle.Goals as goal

pub returns-clause-alone : goal.returns-clause-alone
returns-clause-alone c = through_blocked

pub returns-clause-plan : goal.returns-clause-plan
returns-clause-plan c = through_unseen

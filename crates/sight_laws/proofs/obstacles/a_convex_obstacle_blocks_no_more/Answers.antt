use Rattle.sight_laws.proofs.Passing.{blocked_through}
use Rattle.sight_laws.proofs.obstacles.a_convex_obstacle_blocks_no_more.Goals as goal

pub returns : goal.returns
returns c = blocked_through

use Rattle.sight_laws.proofs.Past.{seen_past_convex}
use Rattle.sight_laws.proofs.plans.sight_among_convex_polygons.Goals as goal

pub returns : goal.returns
returns c = seen_past_convex

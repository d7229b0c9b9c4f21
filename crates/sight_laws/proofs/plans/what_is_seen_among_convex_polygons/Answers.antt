use Rattle.sight_laws.proofs.Past.{seen_among_convex}
use Rattle.sight_laws.proofs.plans.what_is_seen_among_convex_polygons.Goals as goal

pub returns : goal.returns
returns c = seen_among_convex

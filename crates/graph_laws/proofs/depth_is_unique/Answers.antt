use Rattle.graph_laws.proofs.Depths.{same_depth}
use Rattle.graph_laws.proofs.depth_is_unique.Goals as goal

pub returns : goal.returns
returns c = same_depth

use Rattle.graph_laws.proofs.Depths.{least_depth, one_depth_each, listed_depth}
use Rattle.graph_laws.proofs.depth_is_least.Goals as goal

pub returns-clause-value : goal.returns-clause-value
returns-clause-value c = least_depth

pub returns-clause-one_each : goal.returns-clause-one_each
returns-clause-one_each c = one_depth_each

pub returns-clause-listed : goal.returns-clause-listed
returns-clause-listed c = listed_depth

use Rattle.graph_laws.proofs.Bounds.{connectivity_at_most, depth_below_count, reached_at_most, total_at_most}
use Rattle.graph_laws.proofs.measures_are_bounded.Goals as goal

pub returns-clause-depth : goal.returns-clause-depth
returns-clause-depth c = depth_below_count

pub returns-clause-connectivity : goal.returns-clause-connectivity
returns-clause-connectivity c = connectivity_at_most

pub returns-clause-reached : goal.returns-clause-reached
returns-clause-reached c = reached_at_most

pub returns-clause-total : goal.returns-clause-total
returns-clause-total c = total_at_most

use Rattle.map_laws.proofs.SimpleGraphs.{crossing_graph_is_simple}
use Rattle.map_laws.proofs.the_crossing_graph_is_simple.Goals as goal

pub returns : goal.returns
returns c = crossing_graph_is_simple

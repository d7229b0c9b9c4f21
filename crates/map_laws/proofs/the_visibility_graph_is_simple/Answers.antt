use Rattle.map_laws.proofs.SimpleGraphs.{visibility_graph_is_simple}
use Rattle.map_laws.proofs.Visibility.{edges_are}
use Rattle.map_laws.proofs.the_visibility_graph_is_simple.Goals as goal

pub returns-clause-simple : goal.returns-clause-simple
returns-clause-simple c = visibility_graph_is_simple

pub returns-clause-edges : goal.returns-clause-edges
returns-clause-edges c = edges_are

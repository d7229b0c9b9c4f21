use Rattle.graph_laws.proofs.SameGraphs.{equal_graphs, same_simple_graphs}
use Rattle.graph_laws.proofs.SameEdges.{same_edges_equal_graphs}
use Rattle.graph_laws.proofs.same_simple_graphs_are_equal.Goals as goal

pub returns-clause-simple : goal.returns-clause-simple
returns-clause-simple c = same_simple_graphs

pub returns-clause-edges : goal.returns-clause-edges
returns-clause-edges c = same_edges_equal_graphs

pub returns-clause-joins : goal.returns-clause-joins
returns-clause-joins c = equal_graphs

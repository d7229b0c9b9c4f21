use Rattle.graph_laws.proofs.SameGraphs.{same_graph_depth, same_graph_depths, same_graph_measures_of_nodes, same_graph_edges}
use Rattle.graph_laws.proofs.same_graphs_measure_the_same.Goals as goal

pub returns-clause-depth : goal.returns-clause-depth
returns-clause-depth c = same_graph_depth

pub returns-clause-depths : goal.returns-clause-depths
returns-clause-depths c = same_graph_depths

pub returns-clause-measures : goal.returns-clause-measures
returns-clause-measures c = same_graph_measures_of_nodes

pub returns-clause-edges : goal.returns-clause-edges
returns-clause-edges c = same_graph_edges

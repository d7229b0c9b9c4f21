use Rattle.vga_grid.specs.Rows.{graph_of}
use Rattle.walk_core.proofs.Flat.{Making}
use Rattle.walk_core.proofs.neighbours.Neighbours.of_graph.Given as goal

abbrev pub invariant-loop-node : goal.invariant-loop-node
invariant-loop-node l = Making (graph_of l.graph) l.node l.near.items l.firsts.items

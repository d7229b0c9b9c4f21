use Rattle.vga_grid.specs.Rows.{graph_of}
use Rattle.vga_grid.proofs.EdgeLists.{left_first}
use Rattle.vga_grid.proofs.bit_graph.BitGraph.edges.Goals as goal

pub returns : goal.returns
returns c = left_first (graph_of c.args.self.now) c.len-n.ensures.simple

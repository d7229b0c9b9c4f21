use Rattle.std.proofs.Common.{◌≡◌, ◌+◌, length}
use Rattle.vga_grid.specs.Rows.{graph_of}
use Rattle.graph_spec.specs.Graphs.{edges_of}
use Rattle.vga_grid.specs.Edges.{rows_from}
use Rattle.vga_grid.proofs.bit_graph.BitGraph.edge_count.Given as goal

abbrev pub invariant-loop-i : goal.invariant-loop-i
invariant-loop-i l = l.count + length (rows_from (graph_of l.self) l.i) ≡ length (edges_of (graph_of l.self))

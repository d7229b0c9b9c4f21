use Rattle.std.proofs.Common.{◌≡◌, ◌++◌, length, map}
use Rattle.std.specs.List.{All}
use Rattle.dm_io.specs.OutputBuffer.{WritesAndBuffers}
use Rattle.graph_spec.specs.Graphs.{edges_of}
use Rattle.options_spec.specs.declared.options.Form.TheVariants.{Text}
use Rattle.report_spec.specs.Records.{records_bytes}
use Rattle.report_spec.specs.Tables.{edge_row}
use Rattle.vga_grid.specs.Edges.{edges_left}
use Rattle.vga_grid.specs.Rows.{graph_of}
use Rattle.edge_text.proofs.Ends.{AreBelow}
use Rattle.edge_text.proofs.edge_text.put_edges.Given as goal

abbrev pub invariant-edges : goal.invariant-edges
invariant-edges g l =
    let sink = g.O.Sink in
    let graph = graph_of l.initial.graph in
    let left = edges_left (graph_of l.edges.graph.now) l.edges.row l.edges.column in
    record {
      bytes : WritesAndBuffers (sink.written l.initial.out) (sink.written l.out)
          (records_bytes Text (map edge_row (edges_of graph))) (l.lines ++ records_bytes Text (map edge_row left));
      faults_stay : sink.faults l.out ≡ sink.faults l.initial.out;
      below : All (AreBelow graph.count) left;
    }

abbrev pub decreases-edges : goal.decreases-edges
decreases-edges g l = length (edges_left (graph_of l.edges.graph.now) l.edges.row l.edges.column)

use Rattle.std.proofs.Common.{◌≡◌, ◌+◌, length, arith, ap, ℕ, List}
use Rattle.vga_grid.specs.Rows.{graph_of}
use Rattle.graph_spec.specs.Graphs.{edges_of}
use Rattle.vga_grid.specs.Edges.{rows_from}
use Rattle.vga_grid.proofs.EdgeCount.{row_more}
use Rattle.vga_grid.proofs.EdgeLists.{edges_short, edges_by_rows}
use Rattle.vga_grid.proofs.bit_graph.BitGraph.edge_count.Goals as goal

pub loop-i-init : goal.loop-i-init
loop-i-init c = omega (arith, ap (λ (es : List (ℕ × ℕ)). length es) (edges_by_rows (graph_of c.args.self.now)))

pub overflow_add-count : goal.overflow_add-count
overflow_add-count c =
    let more = row_more (graph_of c.args.self.now) c.len-i-end.ensures.simple c.row.result.now c.loop-i.i c.loop-i.count c.count_from-count.result (omega (arith, c.loop-i-test.true, c.len-i-end.ensures.len)) c.row.ensures.len c.row.ensures.bits c.count_from-count.ensures c.loop-i.invariant in
    let short = edges_short (graph_of c.args.self.now) c.len-i-end.ensures.at_most in
    omega (arith, more, short)

pub loop-i-preserved : goal.loop-i-preserved
loop-i-preserved c = row_more (graph_of c.args.self.now) c.len-i-end.ensures.simple c.row.result.now c.loop-i.i c.loop-i.count c.count_from-count.result (omega (arith, c.loop-i-test.true, c.len-i-end.ensures.len)) c.row.ensures.len c.row.ensures.bits c.count_from-count.ensures c.loop-i.invariant

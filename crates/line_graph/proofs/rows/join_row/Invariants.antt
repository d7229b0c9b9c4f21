use Rattle.std.proofs.Common.{◌≡◌, ◌<◌, ◌&&◌, ◌||◌, ◌==◌, ℕ, length, take}
use Rattle.graph_spec.specs.Graphs.{IsSimpleGraph}
use Rattle.vga_grid.specs.Rows.{graph_of, is_joined}
use Rattle.line_graph.specs.Rows.{do_meet_at, has_number}
use Rattle.line_graph.proofs.rows.join_row.Given as goal

abbrev pub invariant-loop-k : goal.invariant-loop-k
invariant-loop-k l = record {
  nodes : l.graph.count ≡ length l.lines;
  simple : IsSimpleGraph (graph_of l.graph);
  joined : (a b : ℕ) → a < b → is_joined l.graph a b
      ≡ (is_joined l.fn.graph a b || (a == l.i && (has_number (take l.k-index l.near) b && do_meet_at l.lines l.i b)));
}

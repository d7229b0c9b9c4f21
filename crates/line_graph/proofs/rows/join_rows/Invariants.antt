use Rattle.std.proofs.Common.{◌≡◌, ◌<◌, ◌&&◌, ℕ, length}
use Rattle.std.specs.Prelude.{nat_lt}
use Rattle.graph_spec.specs.Graphs.{IsSimpleGraph}
use Rattle.sight_spec.specs.Axial as axial
use Rattle.vga_grid.specs.Rows.{graph_of, is_joined}
use Rattle.line_graph.proofs.rows.join_rows.Given as goal

abbrev pub invariant-loop-i : goal.invariant-loop-i
invariant-loop-i l = record {
  nodes : l.graph.count ≡ length l.lines;
  simple : IsSimpleGraph (graph_of l.graph);
  joined : (a b : ℕ) → a < b → is_joined l.graph a b ≡ ((axial.crossing_graph l.lines).joins a b && nat_lt a l.i);
}

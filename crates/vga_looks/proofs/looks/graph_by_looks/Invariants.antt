use Rattle.std.specs.Prelude.{◌≡◌, ℕ, ◌&&◌, ◌<◌, nat_lt, length}
use Rattle.plan_spec.specs.Grid.{grid_points}
use Rattle.graph_spec.specs.Graphs.{IsSimpleGraph}
use Rattle.sight_spec.specs.Visibility.{visibility_graph}
use Rattle.vga_grid.specs.Rows.{graph_of, is_joined}
use Rattle.vga_grid.proofs.Covered.{is_covered}
use Rattle.vga_looks.proofs.looks.graph_by_looks.Given as goal

abbrev pub invariant-loop-i : goal.invariant-loop-i
invariant-loop-i l =
    (l.graph.count ≡ length (grid_points l.fn.plan.grid))
    × IsSimpleGraph (graph_of l.graph)
    × ((a b : ℕ) → a < b → is_joined l.graph a b ≡ ((visibility_graph l.fn.plan).joins a b && nat_lt a l.i))

abbrev pub invariant-loop-j : goal.invariant-loop-j
invariant-loop-j l =
    (l.graph.count ≡ length (grid_points l.fn.plan.grid))
    × IsSimpleGraph (graph_of l.graph)
    × ((a b : ℕ) → a < b
    → is_joined l.graph a b ≡ ((visibility_graph l.fn.plan).joins a b && is_covered l.i l.j a b))

use Rattle.std.specs.Prelude.{◌≡◌, ℕ, ◌-◌, ◌&&◌, ◌<◌, nat_lt}
use Rattle.std.specs.Mem.Slots.{slots_items}
use Rattle.graph_spec.specs.Graphs.{IsSimpleGraph}
use Rattle.vga_grid.specs.Rows.{graph_of, is_joined}
use Rattle.vga_grid.proofs.Covered.{is_covered}
use Rattle.vga_fill.specs.Graphs.{is_one}
use Rattle.vga_fill.proofs.ClosedGraphs.{is_told}
use Rattle.vga_fill.proofs.closing.graph_of_closed.Given as goal

abbrev pub invariant-loop-i : goal.invariant-loop-i
invariant-loop-i l =
    (l.graph.count ≡ l.count)
    × IsSimpleGraph (graph_of l.graph)
    × ((a b : ℕ) → a < b → is_joined l.graph a b ≡ (is_told l.count (is_one (slots_items l.closed.words) l.count) a b && nat_lt a l.i))

abbrev pub invariant-ones : goal.invariant-ones
invariant-ones l =
    (l.i < l.j)
    × (l.graph.count ≡ l.count)
    × IsSimpleGraph (graph_of l.graph)
    × ((a b : ℕ) → a < b → is_joined l.graph a b ≡ (is_told l.count (is_one (slots_items l.closed.words) l.count) a b && is_covered l.i l.j a b))

abbrev pub decreases-ones : goal.decreases-ones
decreases-ones l = l.count - l.j

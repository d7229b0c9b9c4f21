use Rattle.std.proofs.Common.{◌∙◌, ◌≡◌, replicate, ◌*◌, ap, ℕ}
use Rattle.vga_grid.specs.Rows.{width}
use Rattle.vga_grid.proofs.Rows.{none_joined, no_edges}
use Rattle.vga_grid.proofs.bit_graph.BitGraph.empty.Goals.{In_ok-words}
use Rattle.vga_grid.proofs.bit_graph.BitGraph.empty.Goals as goal

zeros : (c : In_ok-words) → c.in_ok-words.words.items ≡ replicate (c.args.n * width c.args.n) 0
zeros c = c.in_ok-words.ensures.items_if_clones_equal (λ y h. h) ∙ ap (λ (v : ℕ). replicate (c.args.n * v) 0) c.row_len.ensures

pub returns-clause-none : goal.returns-clause-none
returns-clause-none c = rw (zeros c) (λ i j. none_joined c.args.n (c.args.n * width c.args.n) i j)

pub invariant_of-result : goal.invariant_of-result
invariant_of-result c = rw (zeros c) (no_edges c.args.n c.requires)

pub returns-clause-simple : goal.returns-clause-simple
returns-clause-simple c = rw (zeros c) (no_edges c.args.n c.requires).simple

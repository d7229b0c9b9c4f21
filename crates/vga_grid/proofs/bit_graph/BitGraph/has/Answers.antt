use Rattle.std.proofs.Common.{arith}
use Rattle.std.proofs.lemmas.Grind.{common_steps}
use Rattle.vga_grid.specs.Rows.{is_joined}
use Rattle.vga_grid.proofs.bit_graph.BitGraph.has.Goals.{then-i-self, else-i-self}
use Rattle.vga_grid.proofs.bit_graph.BitGraph.has.Goals as goal

pub returns-then-j-self : goal.returns-then-j-self
unfolding is_joined
returns-then-j-self c = rw (← c.self.view_is) (elim c.if-i-self.branch [ then-i-self w ↦ grind (arith, common_steps) | else-i-self w ↦ grind (arith, common_steps) ])

pub returns-else-j-self : goal.returns-else-j-self
unfolding is_joined
returns-else-j-self c = rw (← c.self.view_is) (elim c.if-i-self.branch [ then-i-self w ↦ grind (arith, common_steps) | else-i-self w ↦ grind (arith, common_steps) ])

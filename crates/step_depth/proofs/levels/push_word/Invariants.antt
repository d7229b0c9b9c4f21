use Rattle.std.proofs.Common.{◌≡◌, length}
use Rattle.vga_grid.specs.Rows.{bit_of, is_joined}
use Rattle.step_depth.proofs.Fronts.{PushingWord}
use Rattle.step_depth.proofs.levels.push_word.Given as goal

abbrev pub invariant-loop-rest : goal.invariant-loop-rest
invariant-loop-rest l = (length l.missing ≡ length l.fn.missing) × PushingWord (is_joined l.graph) l.k l.word l.rest (bit_of l.fn.missing) (bit_of l.missing)

abbrev pub decreases-loop-rest : goal.decreases-loop-rest
decreases-loop-rest l = l.rest

use Rattle.std.proofs.Common.{get_or, ◌+◌}
use Rattle.std.proofs.lemmas.Bool.{eqb-true}
use Rattle.std.specs.Int.Bits.{bit_or}
use Rattle.vga_grid.proofs.Words.{four_zero}
use Rattle.step_depth.proofs.sets.are_four_empty.Goals as goal

pub returns : goal.returns
returns c = λ e.
    let z = eqb-true (bit_or (bit_or (get_or c.args.set.now c.args.k 0) (get_or c.args.set.now (c.args.k + 1) 0))
    (bit_or (get_or c.args.set.now (c.args.k + 2) 0) (get_or c.args.set.now (c.args.k + 3) 0))) 0 e in
    four_zero (λ k. get_or c.args.set.now k 0) c.args.k z

use Rattle.std.proofs.Common.{sym, ◌∙◌}
use Rattle.exact_geom.proofs.Lowest.{common_divisor-step, common_divisor-end}
use Rattle.exact_geom.proofs.fractions.divisor_of_words.Goals as goal

pub loop-lesser-preserved : goal.loop-lesser-preserved
loop-lesser-preserved c = common_divisor-step c.loop-lesser.greater c.loop-lesser.lesser ∙ c.loop-lesser.invariant

pub returns : goal.returns
returns c = sym (common_divisor-end c.loop-lesser.greater c.loop-lesser.lesser c.loop-lesser-test.false) ∙ c.loop-lesser.invariant

use Rattle.std.proofs.Common.{◌≡◌}
use Rattle.plane_spec.specs.Fractions as fractions
use Rattle.exact_geom.proofs.fractions.divisor_of_words.Given as goal

abbrev pub invariant-loop-lesser : goal.invariant-loop-lesser
invariant-loop-lesser l = fractions.common_divisor l.greater l.lesser ≡ fractions.common_divisor l.fn.a l.fn.b

abbrev pub decreases-loop-lesser : goal.decreases-loop-lesser
decreases-loop-lesser l = l.lesser

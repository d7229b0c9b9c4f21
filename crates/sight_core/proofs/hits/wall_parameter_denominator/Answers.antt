use Rattle.std.proofs.Common.{◌∙◌, sym, arith}
use Rattle.std.proofs.lemmas.Int.{ints, to_z-of_z}
use Rattle.sight_core.proofs.Widths.{width_is}
use Rattle.sight_core.proofs.hits.wall_parameter_denominator.Goals as goal

pub returns-clause-value : goal.returns-clause-value
returns-clause-value c = grind (arith, to_z-of_z)

pub returns-clause-within : goal.returns-clause-within
returns-clause-within c = record { low = omega (arith, ints); high = omega (arith, ints) }

pub returns-clause-nonzero : goal.returns-clause-nonzero
returns-clause-nonzero c = λ none. c.requires.turned (sym (width_is c.args.p c.args.d c.args.wall.now) ∙ sym (returns-clause-value c) ∙ none)

pub overflow_sub-result : goal.overflow_sub-result
overflow_sub-result c = omega (arith, ints)

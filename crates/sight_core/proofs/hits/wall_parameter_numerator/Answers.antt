use Rattle.std.proofs.Common.{arith}
use Rattle.std.proofs.lemmas.Int.{ints}
use Rattle.sight_core.proofs.hits.wall_parameter_numerator.Goals as goal

pub returns-clause-within : goal.returns-clause-within
returns-clause-within c = record { low = omega (arith, ints); high = omega (arith, ints) }

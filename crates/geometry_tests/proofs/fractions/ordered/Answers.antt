use Rattle.std.proofs.Common.{arith, ◌^◌}
use Rattle.std.proofs.lemmas.Int.{ints}
use Rattle.geometry_tests.proofs.fractions.ordered.Goals as goal

pub compare-requires-clause-self_in : goal.compare-requires-clause-self_in
compare-requires-clause-self_in c =
    c.new.ensures.no_larger (10 ^ 18) (record { low = omega (arith, ints); high = omega (arith, ints) }) (record { low = omega (arith, ints); high = omega (arith, ints) })

pub compare-requires-clause-other_in : goal.compare-requires-clause-other_in
compare-requires-clause-other_in c =
    c.new-2.ensures.no_larger (10 ^ 18) (record { low = omega (arith, ints); high = omega (arith, ints) }) (record { low = omega (arith, ints); high = omega (arith, ints) })

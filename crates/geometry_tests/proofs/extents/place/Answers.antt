use Rattle.std.proofs.Common.{arith, ◌^◌}
use Rattle.std.proofs.lemmas.Int.{ints}
use Rattle.geometry_tests.proofs.extents.place.Goals as goal

pub along-requires-clause-t_in : goal.along-requires-clause-t_in
along-requires-clause-t_in c =
    c.new.ensures.no_larger (10 ^ 12) (record { low = omega (arith, ints); high = omega (arith, ints) }) (record { low = omega (arith, ints); high = omega (arith, ints) })

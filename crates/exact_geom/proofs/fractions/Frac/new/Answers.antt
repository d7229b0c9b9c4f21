use Rattle.std.proofs.Common.{arith}
use Rattle.std.proofs.lemmas.Int.{ints}
use Rattle.exact_geom.proofs.Lowest.{reduced_no_larger}
use Rattle.exact_geom.proofs.fractions.Frac.new.Goals as goal

pub returns-then-den-gt0-clause-no_larger : goal.returns-then-den-gt0-clause-no_larger
returns-then-den-gt0-clause-no_larger c = λ most num_in den_in.
    rw c.lowest.ensures (reduced_no_larger most _ (record {
      num = record { low = omega (arith, ints); high = omega (arith, ints) };
      den = record { low = omega (arith, ints); high = omega (arith, ints) };
    }))

pub returns-else-den-gt0-clause-no_larger : goal.returns-else-den-gt0-clause-no_larger
returns-else-den-gt0-clause-no_larger c = λ most num_in den_in.
    rw c.lowest-else-den-gt0.ensures (reduced_no_larger most _ (record {
      num = record { low = omega (arith, ints); high = omega (arith, ints) };
      den = record { low = omega (arith, ints); high = omega (arith, ints) };
    }))

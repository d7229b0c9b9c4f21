use Rattle.std.proofs.Common.{arith}
use Rattle.std.proofs.lemmas.Int.{ints}
use Rattle.exact_geom.proofs.Circle.{dot_itself}
use Rattle.sight_core.proofs.hits.corner_parameter.Goals as goal

pub invariant_of-result : goal.invariant_of-result
invariant_of-result c =
    let positive = dot_itself c.args.d c.requires.directed in
    record {
      num = record { low = omega (arith, ints); high = omega (arith, ints) };
      den = record { low = omega (arith, ints); high = omega (arith, ints) };
      positive = omega (arith, ints, positive);
    }

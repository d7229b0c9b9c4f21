use Rattle.std.proofs.Common.{arith}
use Rattle.std.proofs.lemmas.Int.{to_z-of_z, ints}
use Rattle.exact_geom.proofs.Bounds.{orient_within}
use Rattle.exact_geom.proofs.products.orient.Goals as goal

pub product-requires-2-clause-a_in : goal.product-requires-2-clause-a_in
product-requires-2-clause-a_in c = record { low = omega (arith, ints); high = omega (arith, ints) }

pub product-requires-2-clause-b_in : goal.product-requires-2-clause-b_in
product-requires-2-clause-b_in c = record { low = omega (arith, ints); high = omega (arith, ints) }

pub returns-clause-value : goal.returns-clause-value
returns-clause-value c = grind (arith, to_z-of_z)

pub returns-clause-within : goal.returns-clause-within
returns-clause-within c = rw (returns-clause-value c) (orient_within c.args.a c.args.b c.args.c c.requires.a_in c.requires.b_in c.requires.c_in)

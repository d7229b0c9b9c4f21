use Rattle.std.proofs.Common.{arith}
use Rattle.std.proofs.lemmas.Int.{to_z-of_z, ints}
use Rattle.plane_spec.specs.Polygons.{passes_right}
use Rattle.exact_geom.proofs.polygons.passes.Goals as goal

pub returns-then-x-e : goal.returns-then-x-e
unfolding passes_right
returns-then-x-e c = grind (arith, ints, to_z-of_z)

pub returns-else-x-e : goal.returns-else-x-e
unfolding passes_right
returns-else-x-e c = grind (arith, ints, to_z-of_z)

pub returns-then-e-x-2 : goal.returns-then-e-x-2
unfolding passes_right
returns-then-e-x-2 c = grind (arith, ints, to_z-of_z)

pub returns-else-e-x-2 : goal.returns-else-e-x-2
unfolding passes_right
returns-else-e-x-2 c = grind (arith, ints, to_z-of_z)

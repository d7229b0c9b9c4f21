use Rattle.std.proofs.Common.{◌≡◌, drop}
use Rattle.plane_spec.specs.Polygons.{is_inside, edges_of}
use Rattle.exact_geom.proofs.Parity.{answer}
use Rattle.exact_geom.proofs.polygons.inside.Given as goal

abbrev pub invariant-loop-k : goal.invariant-loop-k
invariant-loop-k l = is_inside l.x l.points ≡ answer l.odd l.x (drop l.k (edges_of l.points))

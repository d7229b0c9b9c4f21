use Rattle.std.proofs.Common.{◌≡◌, drop}
use Rattle.std.specs.List.{list_any}
use Rattle.plane_spec.specs.Polygons.{is_on_border, is_on_edge, edges_of}
use Rattle.exact_geom.proofs.polygons.on_border.Given as goal

abbrev pub invariant-loop-k : goal.invariant-loop-k
invariant-loop-k l = is_on_border l.x l.points ≡ list_any (is_on_edge l.x) (drop l.k (edges_of l.points))

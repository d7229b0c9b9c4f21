use Rattle.std.proofs.Common.{◌≡◌, ◌*◌, drop, pos, ◌+ℤ◌}
use Rattle.plane_spec.specs.Vectors.{IsWithin}
use Rattle.plane_spec.specs.Polygons.{edges_of, doubled_area}
use Rattle.sight_core.proofs.orientation.is_counterclockwise.Given as goal

abbrev pub invariant-loop-k : goal.invariant-loop-k
invariant-loop-k l = record {
  total : l.area +ℤ doubled_area (drop l.k (edges_of l.points)) ≡ doubled_area (edges_of l.points);
  within : IsWithin (pos (320000000000 * l.k)) l.area;
}

use Rattle.std.proofs.Common.{◌≡◌, map, filter, take}
use Rattle.sight_spec.specs.Isovist.{vector_to_corner}
use Rattle.isovist_laws.specs.Vectors.{is_elsewhere}
use Rattle.isovist_core.specs.Headings.{step_of}
use Rattle.isovist_core.proofs.directions.headings_to_corners.Given as goal

abbrev pub invariant-loop-corner : goal.invariant-loop-corner
invariant-loop-corner l =
    map step_of l.headings.items ≡ map (vector_to_corner l.p) (filter (is_elsewhere l.p) (take l.corner-index l.corners))

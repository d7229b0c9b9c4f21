-- The vectors from a point to the corners elsewhere.
use Rattle.std.specs.Prelude.{Bool, not, List, map, filter}
use Rattle.plane_spec.specs.declared.Point.{Point}
use Rattle.plane_spec.specs.declared.Corner.{Corner}
use Rattle.plane_spec.specs.Vectors.{same_point}
use Rattle.sight_spec.specs.Scene.{Scene}
use Rattle.sight_spec.specs.Isovist.{vector_to_corner}

-- the corner isn't p
abbrev pub is_elsewhere : Point → Corner → Bool
is_elsewhere p c = not (same_point c.here p)

-- the vectors to the corners other than p, in their order
abbrev pub vectors_to_corners : Scene → Point → List Point
vectors_to_corners scene p = map (vector_to_corner p) (filter (is_elsewhere p) scene.corners)

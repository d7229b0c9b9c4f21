-- What is known of a line of a scene, by the corners that it leads through.
use Rattle.std.specs.Prelude.{◌≡◌, ℕ, ◌<◌, false, length}
use Rattle.plane_spec.specs.Vectors.{InRange, same_point}
use Rattle.sight_spec.specs.Scene.{Scene}
use Rattle.sight_spec.specs.Axial.{AxialLine, end_beyond}
use Rattle.sight_spec.specs.Dirty.{corner_point}

-- the scene has a corner of that number, at a point in range
pub record IsCornerNumber (scene : Scene) (k : ℕ) : Type 0 where
  pub below : k < length scene.corners
  pub in_range : InRange (corner_point scene k)

-- the line leads through two corners at different points, and beyond each as far as nothing stops it
pub record IsThroughCorners (scene : Scene) (l : AxialLine) : Type 0 where
  pub first : IsCornerNumber scene l.first
  pub second : IsCornerNumber scene l.second
  pub differ : same_point (corner_point scene l.first) (corner_point scene l.second) ≡ false
  pub from : l.from ≡ end_beyond scene (corner_point scene l.second) (corner_point scene l.first)
  pub to : l.to ≡ end_beyond scene (corner_point scene l.first) (corner_point scene l.second)

-- Vectors between points in range.
use Rattle.plane_spec.specs.declared.Point.{Point}
use Rattle.plane_spec.specs.Vectors.{IsWithin}
use Rattle.exact_geom.specs.declared.limits.TheConstants.{MAX_DIFFERENCE}

-- as small as the vector between two points in range
pub record IsStep (d : Point) : Type 0 where
  pub x : IsWithin MAX_DIFFERENCE d.x
  pub y : IsWithin MAX_DIFFERENCE d.y

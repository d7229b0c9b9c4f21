-- What a station stands on.
use Rattle.std.specs.Prelude.{◌≡◌, true}
use Rattle.plane_spec.specs.Cones.{IsCornerInRange}
use Rattle.plane_spec.specs.Segments.{IsSegmentInRange}
use Rattle.view_laws.specs.declared.view.Ground.{Ground}
use Rattle.view_laws.specs.declared.view.Ground.TheVariants as grounds

-- a corner or a wall between points in range
abbrev pub IsGroundInRange : Ground → Type 0
IsGroundInRange grounds.Free = true ≡ true
IsGroundInRange (grounds.Corner c) = IsCornerInRange c
IsGroundInRange (grounds.Wall w) = IsSegmentInRange w

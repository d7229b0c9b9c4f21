-- Points, walls and corners in boxes.
use Rattle.std.specs.Prelude.{◌≤ℤ◌, Option, Some, None}
use Rattle.plane_spec.specs.declared.Point.{Point}
use Rattle.plane_spec.specs.declared.PlanBox.{PlanBox}
use Rattle.plane_spec.specs.declared.Segment.{Segment}
use Rattle.plane_spec.specs.declared.Corner.{Corner}

-- the point is in the box, borders counted
pub record IsIn (area : PlanBox) (x : Point) : Type 0 where
  pub left : area.low.x ≤ℤ x.x
  pub right : x.x ≤ℤ area.high.x
  pub below : area.low.y ≤ℤ x.y
  pub above : x.y ≤ℤ area.high.y

-- the same of a box that may be missing: then no point is in it
abbrev pub IsHeld : Option PlanBox → Point → Type 0
IsHeld None x = ⊥
IsHeld (Some area) x = IsIn area x

-- it holds of both ends
pub record OfEnds (P : Point → Type 0) (e : Segment) : Type 0 where
  pub a : P e.a
  pub b : P e.b

-- it holds of the corner's point
abbrev pub OfCorner : (Point → Type 0) → Corner → Type 0
OfCorner P c = P c.here

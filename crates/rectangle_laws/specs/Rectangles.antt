-- Boxes as polygons, and boxes and points apart.
use Rattle.std.specs.Prelude.{◌<ℤ◌, Bool, ◌||◌, int_lt, List, [], ◌∷◌}
use Rattle.plane_spec.specs.declared.Point.{Point}
use Rattle.plane_spec.specs.declared.PlanBox.{PlanBox}
use Rattle.plane_spec.specs.Vectors.{point}

-- the four corners of the box between two opposite ones, counterclockwise where q is right of p and above it
abbrev pub rectangle : Point → Point → List Point
rectangle p q = point p.x p.y ∷ point q.x p.y ∷ point q.x q.y ∷ point p.x q.y ∷ []

-- the point is right of p and left of q, above p and below q
pub record IsStrictlyBetween (p q x : Point) : Type 0 where
  pub left : p.x <ℤ x.x
  pub right : x.x <ℤ q.x
  pub below : p.y <ℤ x.y
  pub above : x.y <ℤ q.y

-- one of the boxes ends before the other begins, from left to right or upwards
abbrev pub are_boxes_apart : PlanBox → PlanBox → Bool
are_boxes_apart area other =
    (int_lt area.high.x other.low.x || int_lt other.high.x area.low.x)
    || (int_lt area.high.y other.low.y || int_lt other.high.y area.low.y)

-- What the numbers of a plan are within, as premises of what is computed with them.
use Rattle.std.specs.Prelude.{◌≤◌, ◌≡◌, IfSome, List, length, ℤ, pos, ◌+ℤ◌, ◌-ℤ◌, ◌*ℤ◌, ◌≤ℤ◌, false}
use Rattle.std.specs.List.{All}
use Rattle.plane_spec.specs.declared.TheConstants.{MAX_COORDINATE}
use Rattle.plane_spec.specs.declared.Point.{Point}
use Rattle.plane_spec.specs.declared.PlanBox.{PlanBox}
use Rattle.plane_spec.specs.Vectors.{IsWithin, InRange, same_point}
use Rattle.plan_spec.specs.declared.item.GridSpec.{GridSpec}
use Rattle.plan_spec.specs.declared.edit.Changed.{Changed}
use Rattle.plan_spec.specs.declared.limits.TheConstants.{MAX_OBSTACLES, MAX_SCREENS, MAX_ROUTES, MAX_CORNERS, MAX_GRID_POINTS, MAX_STEP}
use Rattle.plan_spec.specs.Plan.{Plan, corner_count}

-- at least three points and at most `MAX_CORNERS`, all in range
pub record IsPolygonInRange (points : List Point) : Type 0 where
  pub in_range : All InRange points
  pub at_least : 3 ≤ length points
  pub at_most : length points ≤ MAX_CORNERS

-- two different ends, both in range
pub record IsProperSegmentInRange (from to : Point) : Type 0 where
  pub from_in : InRange from
  pub to_in : InRange to
  pub apart : same_point from to ≡ false

-- both corners are in range
pub record IsBoxInRange (area : PlanBox) : Type 0 where
  pub low : InRange area.low
  pub high : InRange area.high

-- the box before an edit and the one after it are in range, where there is one
pub record AreBoxesInRange (boxes : Changed) : Type 0 where
  pub first : IfSome boxes.first IsBoxInRange
  pub second : IfSome boxes.second IsBoxInRange

-- z is from low to high
pub record IsFromTo (low high z : ℤ) : Type 0 where
  pub from : low ≤ℤ z
  pub to : z ≤ℤ high

-- a step of 1 to `MAX_STEP`, at least one column and one row, at most `MAX_GRID_POINTS` points, the first and the last
-- column and row in range
pub record IsGridInRange (g : GridSpec) : Type 0 where
  pub step : IsFromTo (pos 1) MAX_STEP g.step
  pub cols : IsFromTo (pos 1) (pos MAX_GRID_POINTS) g.cols
  pub rows : IsFromTo (pos 1) (pos MAX_GRID_POINTS) g.rows
  pub count : (g.cols *ℤ g.rows) ≤ℤ pos MAX_GRID_POINTS
  pub first_col : IsWithin MAX_COORDINATE g.x0
  pub last_col : IsWithin MAX_COORDINATE (g.x0 +ℤ g.step *ℤ (g.cols -ℤ pos 1))
  pub first_row : IsWithin MAX_COORDINATE g.y0
  pub last_row : IsWithin MAX_COORDINATE (g.y0 +ℤ g.step *ℤ (g.rows -ℤ pos 1))

-- at most `MAX_OBSTACLES`, `MAX_SCREENS`, `MAX_ROUTES` and `MAX_CORNERS`
pub record IsWithinLimits (p : Plan) : Type 0 where
  pub obstacles : length p.obstacles ≤ MAX_OBSTACLES
  pub screens : length p.screens ≤ MAX_SCREENS
  pub routes : length p.routes ≤ MAX_ROUTES
  pub corners : corner_count p ≤ MAX_CORNERS

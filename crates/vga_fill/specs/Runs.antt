-- Runs of grid points in the order of their numbers, and what tells that boxes are far from them.
use Rattle.std.specs.Prelude.{◌≡◌, ℕ, ◌<◌, ℤ, ◌≤ℤ◌, Bool, true, ◌&&◌, ◌||◌, int_le, int_lt, length}
use Rattle.std.specs.Prelude.{Option, Some, None}
use Rattle.plane_spec.specs.declared.Point.{Point}
use Rattle.plane_spec.specs.declared.PlanBox.{PlanBox}
use Rattle.plane_spec.specs.Vectors.{is_upper, vector}
use Rattle.plan_spec.specs.declared.edit.Changed.{Changed}
use Rattle.plan_spec.specs.declared.item.GridSpec.{GridSpec}
use Rattle.plan_spec.specs.Grid.{grid_points, point_of_number}

-- a point of a greater number lies above, or straight to the right
abbrev pub Rises : Option GridSpec → Type 0
Rises grid = (i j : ℕ) → i < j → j < length (grid_points grid)
    → is_upper (vector (point_of_number grid i) (point_of_number grid j)) ≡ true

-- q stands on a line of the first point, of the last, or between these; and where both stand on one line, between them
pub record IsOnRun (first last q : Point) : Type 0 where
  pub not_below : first.y ≤ℤ q.y
  pub not_above : q.y ≤ℤ last.y
  pub not_left : first.y ≡ last.y → first.x ≤ℤ q.x
  pub not_right : first.y ≡ last.y → q.x ≤ℤ last.x

-- p and all points of a run that isn't below it lie below the box, or above it
abbrev pub is_beside_along : Point → Point → PlanBox → Bool
is_beside_along p last area = int_lt area.high.y p.y || int_lt last.y area.low.y

-- two numbers lie on one side of an interval: m and last below it, or m and first above it
abbrev pub is_outside : ℤ → ℤ → ℤ → ℤ → ℤ → Bool
is_outside m first last low high = (int_lt m low && int_lt last low) || (int_lt high m && int_lt high first)

-- p and all points of a run that isn't below it lie on one side of the box: below, above, or, where the run is one of a
-- single line, left or right of it
abbrev pub is_beside : Point → Point → Point → PlanBox → Bool
is_beside p first last area =
    is_beside_along p last area || (int_le last.y first.y && is_outside p.x first.x last.x area.low.x area.high.x)

-- the same, where there is a box
abbrev pub is_beside_if_there : Point → Point → Point → Option PlanBox → Bool
is_beside_if_there p first last None = true
is_beside_if_there p first last (Some area) = is_beside p first last area

-- the same of both boxes
abbrev pub is_beside_both : Changed → Point → Point → Point → Bool
is_beside_both boxes p first last =
    is_beside_if_there p first last boxes.first && is_beside_if_there p first last boxes.second

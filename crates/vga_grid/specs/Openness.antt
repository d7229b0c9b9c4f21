-- Which points of a grid are open, by number, and boxes that tell which points an obstacle can't have inside.
use Rattle.std.specs.Prelude.{◌≡◌, ℕ, Bool, ◌&&◌, List, map, Option, Some, int_le}
use Rattle.std.specs.List.{range_with_len}
use Rattle.plane_spec.specs.declared.Point.{Point}
use Rattle.plane_spec.specs.declared.PlanBox.{PlanBox}
use Rattle.plane_spec.specs.Boxes.{box_of_points}
use Rattle.plan_spec.specs.Plan.{Obstacle, Plan}
use Rattle.plan_spec.specs.Grid.{point_of_number}
use Rattle.sight_spec.specs.Sight.{is_open}

-- the grid point of the number is open
abbrev pub is_number_open : Plan → ℕ → Bool
is_number_open plan k = is_open plan (point_of_number plan.grid k)

-- whether each of the first points is open, in order of their numbers
abbrev pub openness_of : Plan → ℕ → List Bool
openness_of plan count = map (is_number_open plan) (range_with_len 0 count)

-- the least box of the obstacle's points
abbrev pub box_of_obstacle : Obstacle → Option PlanBox
box_of_obstacle o = box_of_points o.points

-- the boxes are those of the obstacles, in order
abbrev pub AreBoxesOf : List Obstacle → List PlanBox → Type 0
AreBoxesOf obstacles boxes = map Some boxes ≡ map box_of_obstacle obstacles

-- the point is in the box, borders counted
abbrev pub is_in_box : Point → PlanBox → Bool
is_in_box x area = (int_le area.low.x x.x && int_le x.x area.high.x) && (int_le area.low.y x.y && int_le x.y area.high.y)

-- Figures that the worked examples share.
use Rattle.std.specs.Prelude.{ℕ, List, [], ◌∷◌, pos, Some, codes}
use Rattle.plane_spec.specs.declared.Point.{Point}
use Rattle.plane_spec.specs.Vectors.{point}
use Rattle.plan_spec.specs.declared.item.GridSpec.{GridSpec}
use Rattle.plan_spec.specs.Plan.{Obstacle, Plan, obstacle, empty_plan, with_outer, with_grid, with_obstacles}

-- a point from two numbers that aren't negative
abbrev pub at : ℕ → ℕ → Point
at x y = point (pos x) (pos y)

-- the four points of a box
abbrev pub box : ℕ → ℕ → ℕ → ℕ → List Point
box x0 y0 x1 y1 = at x0 y0 ∷ at x1 y0 ∷ at x1 y1 ∷ at x0 y1 ∷ []

-- a room of 10 by 10
abbrev pub room : Plan
room = with_outer empty_plan (box 0 0 10 10)

-- the room with one obstacle, or with two
abbrev pub room_with : Obstacle → Plan
room_with o = with_obstacles room (o ∷ [])

abbrev pub room_with_two : Obstacle → Obstacle → Plan
room_with_two o q = with_obstacles room (o ∷ q ∷ [])

-- a grid that begins at (0,0)
abbrev pub grid : ℕ → ℕ → ℕ → GridSpec
grid step cols rows = record { step = pos step; x0 = pos 0; y0 = pos 0; cols = pos cols; rows = pos rows }

abbrev pub with_this_grid : Plan → GridSpec → Plan
with_this_grid plan g = with_grid plan (Some g)

-- a box in the middle
abbrev pub middle : Obstacle
middle = obstacle (codes "A") (box 4 4 6 6)

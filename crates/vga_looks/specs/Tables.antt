-- The points of a grid as looks need them, and which of them are seen from one.
use Rattle.std.specs.Prelude.{ℕ, pos, ◌<◌, Bool, ◌&&◌, nat_lt, List, map, length}
use Rattle.std.specs.List.{range_with_len}
use Rattle.plane_spec.specs.declared.Point.{Point}
use Rattle.plane_spec.specs.Vectors.{point, vector}
use Rattle.plan_spec.specs.Grid.{grid_points, point_of_number}
use Rattle.plan_spec.specs.Plan.{Plan}
use Rattle.sight_spec.specs.Visibility.{visibility_graph}
use Rattle.vga_grid.specs.Openness.{openness_of}

-- points by their numbers, and whether each is open
pub record OpenPoints : Type 0 where
  pub points : List Point
  pub are_open : List Bool

-- those of a plan's grid
abbrev pub grid_table_of : Plan → OpenPoints
grid_table_of plan = record {
  points = grid_points plan.grid;
  are_open = openness_of plan (length (grid_points plan.grid));
}

-- the visibility graph joins the point of the number with the later one
abbrev pub is_seen_later : Plan → ℕ → ℕ → Bool
is_seen_later plan i j = nat_lt i j && (visibility_graph plan).joins i j

-- of the first points of the grid, which are later ones that the point of the number sees
abbrev pub seen_later : Plan → ℕ → ℕ → List Bool
seen_later plan i count = map (is_seen_later plan i) (range_with_len 0 count)

-- what stands for a point that there isn't
abbrev pub nowhere : Point
nowhere = point (pos 0) (pos 0)

-- a point of the grid of a greater number
abbrev pub IsLaterIn : Plan → ℕ → ℕ → Type 0
IsLaterIn plan i j = (i < j) × (j < length (grid_points plan.grid))

-- the way from one point of the grid to another
abbrev pub way_between : Plan → ℕ → ℕ → Point
way_between plan i j = vector (point_of_number plan.grid i) (point_of_number plan.grid j)

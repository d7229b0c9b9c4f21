-- The grid's points.
use Rattle.std.specs.Prelude.{ℕ, pos, ◌+ℤ◌, ◌*ℤ◌, unsigned_abs, List, [], map, get_or, Option, Some, None}
use Rattle.std.specs.List.{flat_map, range_with_len, position}
use Rattle.plane_spec.specs.declared.Point.{Point}
use Rattle.plane_spec.specs.Vectors.{point, same_point}
use Rattle.plan_spec.specs.declared.item.GridSpec.{GridSpec}

-- the point in a row and a column, each counted from 0
abbrev pub point_at : GridSpec → ℕ → ℕ → Point
point_at g row col = point (g.x0 +ℤ g.step *ℤ pos col) (g.y0 +ℤ g.step *ℤ pos row)

-- the points of a row, column by column
abbrev pub row_points : GridSpec → ℕ → List Point
row_points g row = map (point_at g row) (range_with_len 0 (unsigned_abs g.cols))

-- the grid's points row by row; a point's number is its place in the list, counted from 0
unfoldable pub grid_points : Option GridSpec → List Point
grid_points None = []
grid_points (Some g) = flat_map (row_points g) (range_with_len 0 (unsigned_abs g.rows))

-- the number of the grid point that stands at x, or none
abbrev pub number_of_point : Option GridSpec → Point → Option ℕ
number_of_point grid x = position (same_point x) (grid_points grid)

-- the grid point of a number; (0,0) stands for a number that no point has
abbrev pub point_of_number : Option GridSpec → ℕ → Point
point_of_number grid k = get_or (grid_points grid) k (point (pos 0) (pos 0))

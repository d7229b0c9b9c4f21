-- The cells of a trial plan: of c by c squares of 100 by 100, from left to right and upwards, number i is in column
-- i % c and in row i / c.
use Rattle.std.specs.Prelude.{ℕ, ◌+◌, ◌*◌, ◌/◌, ◌%◌, pos}
use Rattle.plane_spec.specs.declared.Point.{Point}
use Rattle.plane_spec.specs.Vectors.{point}

-- the lower left corner of the cell
abbrev pub cell_low : ℕ → ℕ → Point
cell_low c i = point (pos (100 * (i % c))) (pos (100 * (i / c)))

-- its upper right corner
abbrev pub cell_high : ℕ → ℕ → Point
cell_high c i = point (pos (100 * (i % c) + 100)) (pos (100 * (i / c) + 100))

-- Gaps between directions, as the code holds them.
use Rattle.std.specs.Prelude.{ℕ, ◌+◌, nat_lt, pos, List, length, slice_index_or, if◌then◌else◌}
use Rattle.plane_spec.specs.declared.Point.{Point}
use Rattle.plane_spec.specs.Vectors.{point}
use Rattle.isovist_core.specs.declared.gap.Gap.{Gap}

-- the direction at a place of the list
abbrev pub direction_at : List Point → ℕ → Point
direction_at directions k = slice_index_or directions k (point (pos 0) (pos 0))

-- the direction after the k-th, and after the last one the first
abbrev pub next_of : List Point → ℕ → Point
next_of directions k = if nat_lt (k + 1) (length directions) then direction_at directions (k + 1) else direction_at directions 0

-- the two directions of a gap
abbrev pub pair_of : Gap → Point × Point
pair_of gap = (gap.from.step, gap.to.step)

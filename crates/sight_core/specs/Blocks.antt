-- What is in the way of a segment, in the order in which it is looked for.
use Rattle.std.specs.Prelude.{ℤ, pos, Bool, ◌&&◌, ◌||◌, not, int_lt}
use Rattle.plane_spec.specs.declared.Point.{Point}
use Rattle.plane_spec.specs.declared.Segment.{Segment}
use Rattle.plane_spec.specs.declared.Corner.{Corner}
use Rattle.plane_spec.specs.Vectors.{vector, orient_of, same_point}
use Rattle.plane_spec.specs.Cones.{is_in_cone}
use Rattle.sight_spec.specs.Sight.{crosses, starts_or_ends_in_wall}

-- both are positive, or both are negative
abbrev pub are_alike : ℤ → ℤ → Bool
are_alike s t = (int_lt (pos 0) s && int_lt (pos 0) t) || (int_lt s (pos 0) && int_lt t (pos 0))

-- the wall's ends lie strictly on one side of the line through p and q
unfoldable pub is_strictly_on_one_side : Point → Point → Segment → Bool
is_strictly_on_one_side p q w = are_alike (orient_of p q w.a) (orient_of p q w.b)

-- the wall is crossed properly, or left to its left
abbrev pub wall_blocks : Point → Point → Segment → Bool
wall_blocks p q w = crosses p q w || starts_or_ends_in_wall p q w

-- the corner isn't the point, and has the direction to it in its cone
unfoldable pub blocks_towards : Point → Corner → Bool
blocks_towards to c = not (same_point c.here to) && is_in_cone c (vector c.here to)

-- The directions that lead from a corner into what is blocked.
use Rattle.std.specs.Prelude.{Bool, ◌&&◌, ◌||◌, if◌then◌else◌}
use Rattle.plane_spec.specs.declared.Point.{Point}
use Rattle.plane_spec.specs.declared.Corner.{Corner}
use Rattle.plane_spec.specs.Vectors.{InRange, vector, turns_left, is_left_of_line}

-- the corner between two walls: the previous point, the corner itself, the next point
abbrev pub corner : Point → Point → Point → Corner
corner prev here next = record { prev = prev; here = here; next = next }

-- a corner between points in range
pub record IsCornerInRange (c : Corner) : Type 0 where
  pub prev : InRange c.prev
  pub here : InRange c.here
  pub next : InRange c.next

-- d leads into what is blocked: strictly left of both walls where the corner turns left, and otherwise of at least one
-- of them
unfoldable pub is_in_cone : Corner → Point → Bool
is_in_cone c d =
    if is_left_of_line c.prev c.here c.next
    then (turns_left (vector c.prev c.here) d && turns_left (vector c.here c.next) d)
    else (turns_left (vector c.prev c.here) d || turns_left (vector c.here c.next) d)

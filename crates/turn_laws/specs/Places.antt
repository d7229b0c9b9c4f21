-- Directions as numbers: their places on the circle, of which each quarter turn has 2^40, that is 1099511627776.
use Rattle.std.specs.Prelude.{ℕ, ◌+◌, ◌*◌, ◌/◌, ◌&&◌, if◌then◌else◌, pos, unsigned_abs, int_lt, int_le}
use Rattle.plane_spec.specs.declared.Point.{Point}

-- the part of a direction that leads so far along the quarter's first side and so far along its second
abbrev pub part_of : ℕ → ℕ → ℕ
part_of first second = (second * 1099511627776) / (first + second)

-- the quarter turns before it, and the part of its own, counterclockwise from (1,0)
unfoldable pub place_of : Point → ℕ
place_of d =
    if int_lt (pos 0) d.x && int_le (pos 0) d.y then part_of (unsigned_abs d.x) (unsigned_abs d.y)
    else (if int_le d.x (pos 0) && int_lt (pos 0) d.y then 1099511627776 + part_of (unsigned_abs d.y) (unsigned_abs d.x)
    else (if int_lt d.x (pos 0) && int_le d.y (pos 0) then 2199023255552 + part_of (unsigned_abs d.x) (unsigned_abs d.y)
    else (3298534883328 + part_of (unsigned_abs d.y) (unsigned_abs d.x))))

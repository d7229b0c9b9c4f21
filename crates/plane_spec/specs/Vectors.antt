-- Points and directions with whole coordinates.
use Rattle.std.specs.Prelude.{ℤ, pos, neg_ℤ, ◌-ℤ◌, ◌*ℤ◌, ◌+ℤ◌, ◌≤ℤ◌, ◌≡◌, Bool, true, false, ◌&&◌, ◌||◌, int_lt, int_le, if◌then◌else◌}
use Rattle.std.specs.Ordering.{int_eq}
use Rattle.std.specs.declared.cmp.Ordering.{Ordering}
use Rattle.std.specs.declared.cmp.Ordering.TheVariants.{Less, Equal, Greater}
use Rattle.plane_spec.specs.declared.Point.{Point}
use Rattle.plane_spec.specs.declared.TheConstants.{MAX_COORDINATE, MAX_COMPONENT}

-- ---- products

-- the point, or direction, with these coordinates
abbrev pub point : ℤ → ℤ → Point
point x y = record { x = x; y = y }

-- the direction from a to b
abbrev pub vector : Point → Point → Point
vector a b = point (b.x -ℤ a.x) (b.y -ℤ a.y)

-- the opposite direction
abbrev pub reversed_direction : Point → Point
reversed_direction d = point (neg_ℤ d.x) (neg_ℤ d.y)

-- positive where e is strictly left of d, and 0 where they are in line
abbrev pub cross_of : Point → Point → ℤ
cross_of d e = d.x *ℤ e.y -ℤ d.y *ℤ e.x

-- positive where less than a right angle is between d and e, and 0 where they stand square
abbrev pub dot_of : Point → Point → ℤ
dot_of d e = d.x *ℤ e.x +ℤ d.y *ℤ e.y

-- positive where c lies left of the line from a to b, and 0 where it lies on it
abbrev pub orient_of : Point → Point → Point → ℤ
orient_of a b c = (b.x -ℤ a.x) *ℤ (c.y -ℤ a.y) -ℤ (b.y -ℤ a.y) *ℤ (c.x -ℤ a.x)

-- both coordinates are the same
abbrev pub same_point : Point → Point → Bool
same_point p q = int_eq p.x q.x && int_eq p.y q.y

-- e is strictly left of d
abbrev pub turns_left : Point → Point → Bool
turns_left d e = int_lt (pos 0) (cross_of d e)

-- c lies strictly left of the line from a to b
abbrev pub is_left_of_line : Point → Point → Point → Bool
is_left_of_line a b c = int_lt (pos 0) (orient_of a b c)

-- ---- ranges

-- z is from -most to most
pub record IsWithin (most z : ℤ) : Type 0 where
  pub low : neg_ℤ most ≤ℤ z
  pub high : z ≤ℤ most

-- a point whose coordinates are at most `MAX_COORDINATE` in size
pub record InRange (p : Point) : Type 0 where
  pub x : IsWithin MAX_COORDINATE p.x
  pub y : IsWithin MAX_COORDINATE p.y

-- a coordinate is at most `MAX_COORDINATE` in size
abbrev pub is_coordinate : ℤ → Bool
is_coordinate z = int_le (neg_ℤ MAX_COORDINATE) z && int_le z MAX_COORDINATE

-- both coordinates are at most `MAX_COORDINATE` in size
abbrev pub is_in_range : Point → Bool
is_in_range p = is_coordinate p.x && is_coordinate p.y

-- a direction whose components are at most `MAX_COMPONENT` in size, as a sum of two vectors between points in range is
pub record IsDirection (d : Point) : Type 0 where
  pub x : IsWithin MAX_COMPONENT d.x
  pub y : IsWithin MAX_COMPONENT d.y

-- a direction leads somewhere: it isn't (0,0)
pub record IsDirected (d : Point) : Type 0 where
  pub somewhere : same_point d (point (pos 0) (pos 0)) ≡ false

-- ---- the order of directions

-- up, or straight to the right: the half turn from (1,0) on, to just before (-1,0)
abbrev pub is_upper : Point → Bool
is_upper d = int_lt (pos 0) d.y || (int_eq d.y (pos 0) && int_lt (pos 0) d.x)

-- by the half turns in which two directions are, and by whether the second is left of the first
abbrev pub turns_by : Bool → Bool → Bool → Bool
turns_by upper upper_too left = if upper then (if upper_too then left else true) else (if upper_too then false else left)

-- d comes before e, counterclockwise from (1,0): by the half turn, and within one by which is left of the other
unfoldable pub turns_before : Point → Point → Bool
turns_before d e = turns_by (is_upper d) (is_upper e) (turns_left d e)

-- the order of directions counterclockwise from (1,0); equal are those that point the same way
unfoldable pub turn_order_of : Point → Point → Ordering
turn_order_of d e = if turns_before d e then Less else (if turns_before e d then Greater else Equal)

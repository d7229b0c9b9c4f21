-- Boxes with sides along the axes, borders counted, and what meets them.
use Rattle.std.specs.Prelude.{ℤ, pos, Bool, ◌&&◌, ◌||◌, not, int_le, List, [], ◌∷◌, Option, Some, None}
use Rattle.std.specs.Int.{int_max, int_min}
use Rattle.std.specs.Ordering.{int_eq}
use Rattle.plane_spec.specs.declared.Point.{Point}
use Rattle.plane_spec.specs.declared.PlanBox.{PlanBox}
use Rattle.plane_spec.specs.Vectors.{point, is_left_of_line, orient_of}
use Rattle.plane_spec.specs.Fractions.{RPoint, whole}
use Rattle.plane_spec.specs.RPoints.{fractions_overlap, is_between_fractions}

-- the least box that has a box and a point in it
abbrev pub with_point : PlanBox → Point → PlanBox
with_point area p =
    record { low = point (int_min area.low.x p.x) (int_min area.low.y p.y); high = point (int_max area.high.x p.x) (int_max area.high.y p.y) }

-- the least box that has a box and all of the points in it
unfoldable pub with_points : PlanBox → List Point → PlanBox
with_points area [] = area
with_points area (p ∷ points) = with_points (with_point area p) points

-- the least box that has all of the points in it, or none without points
abbrev pub box_of_points : List Point → Option PlanBox
box_of_points [] = None
box_of_points (p ∷ points) = Some (with_points (record { low = p; high = p }) points)

-- the four corners of the box lie strictly left of the line from p to q
unfoldable pub is_box_left_of_line : Point → Point → PlanBox → Bool
is_box_left_of_line p q area =
    (is_left_of_line p q (point area.low.x area.low.y) && is_left_of_line p q (point area.high.x area.low.y))
    && (is_left_of_line p q (point area.high.x area.high.y) && is_left_of_line p q (point area.low.x area.high.y))

-- the box is not strictly on one side of the line through p and q
abbrev pub reaches_line : Point → Point → PlanBox → Bool
reaches_line p q area = not (is_box_left_of_line p q area) && not (is_box_left_of_line q p area)

-- the interval from one of m and n to the other shares a number with the one from low to high
abbrev pub do_intervals_overlap : ℤ → ℤ → ℤ → ℤ → Bool
do_intervals_overlap m n low high = (int_le low m || int_le low n) && (int_le m high || int_le n high)

-- the segment from p to q meets the box: their extents overlap, and the box isn't strictly on one side of the segment's
-- line
unfoldable pub does_meet_box : Point → Point → PlanBox → Bool
does_meet_box p q area =
    (do_intervals_overlap p.x q.x area.low.x area.high.x && do_intervals_overlap p.y q.y area.low.y area.high.y) && reaches_line p q area

-- the part between two points of the line through a and b meets the box
unfoldable pub does_extent_meet_box : Point → Point → RPoint → RPoint → PlanBox → Bool
does_extent_meet_box a b from to area =
    (fractions_overlap from.x to.x area.low.x area.high.x && fractions_overlap from.y to.y area.low.y area.high.y) && reaches_line a b area

-- x lies on the part between two points of the line through a and b: on the line, and in the extents of the part
abbrev pub is_on_extent : Point → Point → Point → RPoint → RPoint → Bool
is_on_extent x a b from to =
    int_eq (orient_of a b x) (pos 0) && (is_between_fractions (whole x.x) from.x to.x && is_between_fractions (whole x.y) from.y to.y)

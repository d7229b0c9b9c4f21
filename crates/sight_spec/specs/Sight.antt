-- Which points see each other, and which are open.
use Rattle.std.specs.Prelude.{Bool, ◌&&◌, ◌||◌, not}
use Rattle.std.specs.List.{list_any}
use Rattle.plane_spec.specs.declared.Point.{Point}
use Rattle.plane_spec.specs.declared.Segment.{Segment}
use Rattle.plane_spec.specs.declared.Corner.{Corner}
use Rattle.plane_spec.specs.Vectors.{vector, same_point, is_left_of_line}
use Rattle.plane_spec.specs.Segments.{is_on_segment, cross_properly}
use Rattle.plane_spec.specs.Polygons.{is_on_edge, is_on_border, is_inside}
use Rattle.plane_spec.specs.Cones.{is_in_cone}
use Rattle.plan_spec.specs.Plan.{Obstacle, Plan}
use Rattle.sight_spec.specs.Scene.{Scene, blockers_of_scene}

-- ---- what is in the way

-- the segment from p to q crosses the wall or screen properly
abbrev pub crosses : Point → Point → Segment → Bool
crosses p q w = cross_properly w.a w.b p q

-- p lies on the wall, not at its ends
abbrev pub is_in_interior : Point → Segment → Bool
is_in_interior p w = is_on_edge p w && (not (same_point p w.a) && not (same_point p w.b))

-- the segment begins on the wall, not at its ends, and leads to its left
unfoldable pub starts_into_wall : Point → Point → Segment → Bool
starts_into_wall p q w = is_in_interior p w && is_left_of_line w.a w.b q

-- the segment begins or ends on the wall, not at the wall's ends, and is on its left there
abbrev pub starts_or_ends_in_wall : Point → Point → Segment → Bool
starts_or_ends_in_wall p q w = starts_into_wall p q w || starts_into_wall q p w

-- the corner lies on the closed segment, isn't its end q, and has the direction to q in its cone
unfoldable pub corner_stops : Point → Point → Corner → Bool
corner_stops p q c = not (same_point c.here q) && (is_on_segment c.here p q && is_in_cone c (vector c.here q))

-- the segment goes on from the corner into the corner's cone, in one direction or the other
abbrev pub corner_blocks : Point → Point → Corner → Bool
corner_blocks p q c = corner_stops p q c || corner_stops q p c

-- a wall or a screen is crossed properly, a wall that the segment begins or ends on has it on its left, or a corner is
-- in the way
unfoldable pub is_blocked : Scene → Point → Point → Bool
is_blocked scene p q =
    list_any (crosses p q) (blockers_of_scene scene) || (list_any (starts_or_ends_in_wall p q) scene.walls || list_any (corner_blocks p q) scene.corners)

-- two different points see each other
unfoldable pub are_in_sight : Scene → Point → Point → Bool
are_in_sight scene p q = not (same_point p q) && not (is_blocked scene p q)

-- ---- openness

-- x is inside the obstacle
abbrev pub has_inside : Point → Obstacle → Bool
has_inside x o = is_inside x o.points

-- on or inside the outer polygon, and inside no obstacle
unfoldable pub is_open : Plan → Point → Bool
is_open plan x = (is_on_border x plan.outer || is_inside x plan.outer) && not (list_any (has_inside x) plan.obstacles)

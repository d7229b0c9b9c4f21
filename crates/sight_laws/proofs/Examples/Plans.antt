-- What is seen in plans of convex polygons, on small figures.
use Rattle.std.specs.Prelude.{◌≡◌, refl, List, [], ◌∷◌, true, false, ◌&&◌}
use Rattle.std.specs.List.{list_all}
use Rattle.plane_spec.specs.declared.Point.{Point}
use Rattle.plane_spec.specs.Segments.{is_on_segment, cross_properly, do_touch}
use Rattle.plane_spec.specs.Polygons.{edges_to, is_counterclockwise, may_be_edges, crosses_nowhere}
use Rattle.plane_spec.specs.Cones.{is_in_cone}
use Rattle.sight_spec.specs.Scene.{scene_of, oriented_walls, oriented_corners}
use Rattle.sight_spec.specs.Sight.{starts_into_wall, corner_stops, is_blocked, are_in_sight}
use Rattle.plan_spec.proofs.Figures.{at, box, room_with, middle}
use Rattle.polygon_laws.specs.Alone.{outer_alone}
use Rattle.sight_laws.specs.Convex.{is_on_or_inside, is_convex_obstacle, has_convex_polygons, SeesPast}
use Rattle.sight_laws.proofs.Past.{seen_past_convex}

-- ---- the outer polygon

the_border_is_on_or_inside : (is_on_or_inside (at 0 5) (box 0 0 10 10) && is_on_or_inside (at 10 10) (box 0 0 10 10))
    ≡ true
unfolding oriented_walls is_counterclockwise edges_to
the_border_is_on_or_inside = refl

what_is_right_of_a_wall_is_not : is_on_or_inside (at 11 5) (box 0 0 10 10) ≡ false
unfolding oriented_walls is_counterclockwise edges_to
what_is_right_of_a_wall_is_not = refl

along_a_wall_of_the_outer_polygon_all_is_seen : is_blocked (outer_alone (box 0 0 10 10)) (at 0 0) (at 10 0) ≡ false
unfolding is_blocked starts_into_wall corner_stops is_in_cone oriented_walls oriented_corners is_counterclockwise
    edges_to is_on_segment cross_properly
along_a_wall_of_the_outer_polygon_all_is_seen = refl

-- a room with a notch, which isn't convex
abbrev notched : List Point
notched = at 0 0 ∷ at 10 0 ∷ at 10 10 ∷ at 5 5 ∷ at 0 10 ∷ []

its_notch_blocks : is_blocked (outer_alone notched) (at 0 10) (at 10 10) ≡ true
unfolding is_blocked starts_into_wall corner_stops is_in_cone oriented_walls oriented_corners is_counterclockwise
    edges_to is_on_segment cross_properly
its_notch_blocks = refl

-- so one of the two isn't on or left of all walls
its_ends_are_not_left_of_all_walls : (is_on_or_inside (at 0 10) notched && is_on_or_inside (at 10 10) notched) ≡ false
unfolding oriented_walls is_counterclockwise edges_to
its_ends_are_not_left_of_all_walls = refl

-- ---- a room with a box in the middle

the_box_is_simple_and_convex : list_all is_convex_obstacle (room_with middle).obstacles ≡ true
unfolding oriented_walls is_counterclockwise edges_to crosses_nowhere may_be_edges is_on_segment cross_properly do_touch
the_box_is_simple_and_convex = refl

all_its_polygons_are_convex : has_convex_polygons (room_with middle) ≡ true
unfolding oriented_walls is_counterclockwise edges_to
all_its_polygons_are_convex = refl

-- along the upper wall of the box and over both its ends
past_the_box_the_other_wall_is_seen : are_in_sight (scene_of (room_with middle)) (at 0 6) (at 10 6) ≡ true
unfolding are_in_sight is_blocked starts_into_wall corner_stops is_in_cone oriented_walls oriented_corners
    is_counterclockwise edges_to is_on_segment cross_properly
past_the_box_the_other_wall_is_seen = refl

-- so no point of the way is inside the box, at whatever fraction of it
nothing_of_the_box_is_passed_through : SeesPast (room_with middle) (at 0 6) (at 10 6)
unfolding oriented_walls is_counterclockwise edges_to
nothing_of_the_box_is_passed_through =
    (seen_past_convex (room_with middle) (at 0 6)
    (at 10 6) the_box_is_simple_and_convex refl refl refl).0 past_the_box_the_other_wall_is_seen

-- one unit further down it is
through_the_box_it_is_not_seen : are_in_sight (scene_of (room_with middle)) (at 0 5) (at 10 5) ≡ false
unfolding are_in_sight is_blocked starts_into_wall corner_stops is_in_cone oriented_walls oriented_corners
    is_counterclockwise edges_to is_on_segment cross_properly
through_the_box_it_is_not_seen = refl

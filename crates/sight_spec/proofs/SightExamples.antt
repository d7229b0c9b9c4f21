-- Sight, openness, stops and the edges of small grids.
use Rattle.std.specs.Prelude.{◌≡◌, refl, [], ◌∷◌, codes, Some, pos, true, false}
use Rattle.plane_spec.specs.Segments.{is_on_segment, cross_properly}
use Rattle.plane_spec.specs.Polygons.{edges_to, passes_right, is_inside, is_counterclockwise}
use Rattle.plane_spec.specs.Cones.{is_in_cone}
use Rattle.plane_spec.specs.Fractions.{fraction, whole, common_divisor, reduced}
use Rattle.plan_spec.specs.Plan.{Plan, obstacle, screen, with_screens}
use Rattle.sight_spec.specs.Scene.{oriented_walls, oriented_corners, scene_of}
use Rattle.sight_spec.specs.Sight.{starts_into_wall, corner_stops, is_blocked, are_in_sight, is_open}
use Rattle.sight_spec.specs.Stops.{blocker_hit, corner_hit, start_hit, stop_of, near_wall_of}
use Rattle.plan_spec.specs.Grid.{grid_points}
use Rattle.sight_spec.specs.Visibility.{visibility_edges}
use Rattle.sight_spec.specs.declared.target.Target.TheVariants.{Point as ToPoint, Ray as AlongRay}
use Rattle.sight_spec.specs.Sweep.{Seen, Reach, answers_to}
use Rattle.plan_spec.proofs.Figures.{at, box, room, room_with, room_with_two, grid, with_this_grid, middle}

-- ---- a box whose corner lies on the way: past it is free, into it isn't

a_segment_that_grazes_a_corner_is_free : are_in_sight (scene_of (room_with middle)) (at 8 0) (at 0 8) ≡ true
unfolding are_in_sight is_blocked starts_into_wall corner_stops is_in_cone oriented_walls oriented_corners is_counterclockwise edges_to is_on_segment cross_properly
a_segment_that_grazes_a_corner_is_free = refl

a_segment_through_two_corners_is_blocked : are_in_sight (scene_of (room_with middle)) (at 0 0) (at 8 8) ≡ false
unfolding are_in_sight is_blocked starts_into_wall corner_stops is_in_cone oriented_walls oriented_corners is_counterclockwise edges_to is_on_segment cross_properly
a_segment_through_two_corners_is_blocked = refl

a_segment_between_a_box_on_its_right_and_one_on_its_left_is_free :
    are_in_sight (scene_of (room_with_two (obstacle (codes "A") (box 2 2 4 4)) (obstacle (codes "B") (box 6 4 8 6)))) (at 0 4) (at 10 4) ≡ true
unfolding are_in_sight is_blocked starts_into_wall corner_stops is_in_cone oriented_walls oriented_corners is_counterclockwise edges_to is_on_segment cross_properly
a_segment_between_a_box_on_its_right_and_one_on_its_left_is_free = refl

a_segment_along_a_wall_is_free : are_in_sight (scene_of (room_with middle)) (at 0 4) (at 10 4) ≡ true
unfolding are_in_sight is_blocked starts_into_wall corner_stops is_in_cone oriented_walls oriented_corners is_counterclockwise edges_to is_on_segment cross_properly
a_segment_along_a_wall_is_free = refl

a_segment_from_a_wall_into_its_box_is_blocked : are_in_sight (scene_of (room_with middle)) (at 5 4) (at 5 5) ≡ false
unfolding are_in_sight is_blocked starts_into_wall corner_stops is_in_cone oriented_walls oriented_corners is_counterclockwise edges_to is_on_segment cross_properly
a_segment_from_a_wall_into_its_box_is_blocked = refl

a_point_does_not_see_itself : are_in_sight (scene_of room) (at 5 5) (at 5 5) ≡ false
unfolding are_in_sight is_blocked starts_into_wall corner_stops is_in_cone oriented_walls oriented_corners is_counterclockwise edges_to is_on_segment cross_properly
a_point_does_not_see_itself = refl

-- a screen in the middle of the room
abbrev screened : Plan
screened = with_screens room (screen (codes "S") (at 5 2) (at 5 8) ∷ [])

a_screen_blocks_what_crosses_it : are_in_sight (scene_of screened) (at 0 5) (at 10 5) ≡ false
unfolding are_in_sight is_blocked starts_into_wall corner_stops is_in_cone oriented_walls oriented_corners is_counterclockwise edges_to is_on_segment cross_properly
a_screen_blocks_what_crosses_it = refl

a_segment_along_a_screen_is_free : are_in_sight (scene_of screened) (at 5 0) (at 5 10) ≡ true
unfolding are_in_sight is_blocked starts_into_wall corner_stops is_in_cone oriented_walls oriented_corners is_counterclockwise edges_to is_on_segment cross_properly
a_segment_along_a_screen_is_free = refl

a_segment_through_the_end_of_a_screen_is_free : are_in_sight (scene_of screened) (at 0 2) (at 10 2) ≡ true
unfolding are_in_sight is_blocked starts_into_wall corner_stops is_in_cone oriented_walls oriented_corners is_counterclockwise edges_to is_on_segment cross_properly
a_segment_through_the_end_of_a_screen_is_free = refl

-- ---- openness

the_outer_wall_is_open : is_open (room_with middle) (at 0 5) ≡ true
unfolding is_open is_inside passes_right edges_to is_on_segment
the_outer_wall_is_open = refl

the_wall_of_a_box_is_open : is_open (room_with middle) (at 4 5) ≡ true
unfolding is_open is_inside passes_right edges_to is_on_segment
the_wall_of_a_box_is_open = refl

the_middle_of_a_box_is_closed : is_open (room_with middle) (at 5 5) ≡ false
unfolding is_open is_inside passes_right edges_to is_on_segment
the_middle_of_a_box_is_closed = refl

a_point_outside_the_room_is_closed : is_open (room_with middle) (at 11 5) ≡ false
unfolding is_open is_inside passes_right edges_to is_on_segment
a_point_outside_the_room_is_closed = refl

-- ---- stops

a_ray_stops_in_a_walls_middle : stop_of (scene_of (room_with middle)) (at 0 5) (at 2 0) ≡ Some (whole (pos 2))
unfolding stop_of blocker_hit corner_hit start_hit is_in_cone oriented_walls oriented_corners is_counterclockwise edges_to is_on_segment reduced common_divisor
a_ray_stops_in_a_walls_middle = refl

a_ray_stops_at_a_corner : stop_of (scene_of (room_with middle)) (at 0 0) (at 8 8) ≡ Some (fraction (pos 1) (pos 2))
unfolding stop_of blocker_hit corner_hit start_hit is_in_cone oriented_walls oriented_corners is_counterclockwise edges_to is_on_segment reduced common_divisor
a_ray_stops_at_a_corner = refl

a_ray_past_a_corner_goes_on : stop_of (scene_of (room_with middle)) (at 0 4) (at 1 0) ≡ Some (whole (pos 10))
unfolding stop_of blocker_hit corner_hit start_hit is_in_cone oriented_walls oriented_corners is_counterclockwise edges_to is_on_segment reduced common_divisor
a_ray_past_a_corner_goes_on = refl

a_ray_into_the_wall_on_which_it_begins_stops_at_once : stop_of (scene_of (room_with middle)) (at 5 4) (at 0 1) ≡ Some (whole (pos 0))
unfolding stop_of blocker_hit corner_hit start_hit is_in_cone oriented_walls oriented_corners is_counterclockwise edges_to is_on_segment reduced common_divisor
a_ray_into_the_wall_on_which_it_begins_stops_at_once = refl

-- the walls of the room have the numbers 0 to 3, those of the box 4 to 7, from its lower one on
the_nearest_wall_is_that_of_the_box : near_wall_of (scene_of (room_with middle)) (at 0 5) (at 1 0) ≡ Some 7
unfolding near_wall_of blocker_hit oriented_walls is_counterclockwise edges_to
the_nearest_wall_is_that_of_the_box = refl

screens_are_numbered_after_walls : near_wall_of (scene_of screened) (at 0 5) (at 1 0) ≡ Some 4
unfolding near_wall_of blocker_hit oriented_walls is_counterclockwise edges_to
screens_are_numbered_after_walls = refl

-- ---- targets of one point

what_is_asked_is_answered_in_order :
    answers_to (scene_of (room_with middle)) (at 0 5) (ToPoint (at 4 5) ∷ AlongRay (at 2 0) ∷ ToPoint (at 6 5) ∷ [])
    ≡ Seen true ∷ Reach (record { stop = Some (whole (pos 2)); wall = Some 7 }) ∷ Seen false ∷ []
unfolding are_in_sight is_blocked starts_into_wall corner_stops stop_of near_wall_of blocker_hit corner_hit start_hit is_in_cone oriented_walls oriented_corners is_counterclockwise edges_to is_on_segment cross_properly reduced common_divisor
what_is_asked_is_answered_in_order = refl

-- ---- edges

four_corners_of_an_empty_room_see_each_other :
    visibility_edges (with_this_grid room (grid 10 2 2)) ≡ (0, 1) ∷ (0, 2) ∷ (0, 3) ∷ (1, 2) ∷ (1, 3) ∷ (2, 3) ∷ []
unfolding visibility_edges grid_points is_open is_inside passes_right are_in_sight is_blocked starts_into_wall corner_stops is_in_cone oriented_walls oriented_corners is_counterclockwise edges_to is_on_segment cross_properly
four_corners_of_an_empty_room_see_each_other = refl

the_diagonal_into_the_box_is_no_edge :
    visibility_edges (with_this_grid (room_with middle) (grid 8 2 2)) ≡ (0, 1) ∷ (0, 2) ∷ (1, 2) ∷ (1, 3) ∷ (2, 3) ∷ []
unfolding visibility_edges grid_points is_open is_inside passes_right are_in_sight is_blocked starts_into_wall corner_stops is_in_cone oriented_walls oriented_corners is_counterclockwise edges_to is_on_segment cross_properly
the_diagonal_into_the_box_is_no_edge = refl

without_a_grid_there_are_no_edges : visibility_edges room ≡ []
unfolding visibility_edges grid_points
without_a_grid_there_are_no_edges = refl

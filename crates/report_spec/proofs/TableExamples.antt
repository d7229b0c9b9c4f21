-- Whole tables of small plans.
use Rattle.std.specs.Prelude.{◌≡◌, refl, ℕ, List, [], ◌∷◌, ◌++◌, codes, length, ℤ, pos, neg_ℤ}
use Rattle.std.specs.Fmt.{digits}
use Rattle.plane_spec.specs.Vectors.{point, turns_before}
use Rattle.plane_spec.specs.Segments.{is_on_segment, cross_properly, do_touch}
use Rattle.plane_spec.specs.Polygons.{edges_to, passes_right, is_inside, is_counterclockwise}
use Rattle.plane_spec.specs.Cones.{is_in_cone}
use Rattle.plane_spec.specs.Fractions.{common_divisor, reduced, along}
use Rattle.plane_spec.specs.RPoints.{do_rsegments_touch}
use Rattle.plan_spec.specs.Plan.{Obstacle, Plan, obstacle, screen, route, empty_plan, with_outer, with_obstacles, with_screens, with_routes}
use Rattle.sight_spec.specs.Scene.{oriented_walls, oriented_corners, scene_of}
use Rattle.sight_spec.specs.Sight.{starts_into_wall, corner_stops, is_blocked, are_in_sight, is_open}
use Rattle.sight_spec.specs.Stops.{blocker_hit, corner_hit, start_hit, stop_of, near_wall_of}
use Rattle.sight_spec.specs.Isovist.{corner_directions, wall_between, runs_of, triangle_of, isovist_in}
use Rattle.plan_spec.specs.Grid.{grid_points}
use Rattle.sight_spec.specs.Visibility.{visibility_edges}
use Rattle.graph_spec.specs.Graphs.{depth_of, measures_of}
use Rattle.sight_spec.specs.Axial.{axial_lines, crossing_graph}
use Rattle.route_spec.specs.Routes.{cuts_of, pieces_of, turn_of, costs_within, turn_depths_of}
use Rattle.plan_spec.proofs.Figures.{at, box, room, room_with, middle, grid, with_this_grid}
use Rattle.options_spec.specs.declared.options.Form.TheVariants.{Text}
use Rattle.report_spec.specs.Records.{records_bytes}
use Rattle.report_spec.specs.Tables.{points_table, depth_table, isovist_table, axial_table, lines_table, segments_table, turns_table, edges_table_of, points_table_of, depth_table_of, isovist_table_of, axial_table_of, lines_table_of, segments_table_of, turns_table_of}

-- the text of records, and lines that each end in a newline
abbrev text : List (List (List ℕ)) → List ℕ
text records = records_bytes Text records

abbrev ended : List (List ℕ) → List ℕ
ended [] = []
ended (line ∷ lines) = line ++ 10 ∷ ended lines

-- ---- isovists

a_point_on_the_lower_wall_sees_past_a_box :
    text (isovist_table_of (room_with middle) (at 5 0))
    ≡ ended (
    codes "table isovist" ∷ codes "10/1 0/1 10/1 10/1 50/1" ∷ codes "10/1 10/1 15/2 10/1 25/1" ∷ codes "6/1 4/1 4/1 4/1 8/1"
    ∷ codes "5/2 10/1 0/1 10/1 25/1" ∷ codes "0/1 10/1 0/1 0/1 50/1" ∷ codes "total 158 158" ∷ codes "end 5" ∷ [])
unfolding points_table isovist_table axial_table lines_table segments_table turns_table depth_table measures_of depth_of reduced common_divisor digits visibility_edges grid_points is_open is_inside passes_right are_in_sight is_blocked starts_into_wall corner_stops is_in_cone oriented_walls oriented_corners is_counterclockwise edges_to is_on_segment cross_properly isovist_in corner_directions wall_between runs_of triangle_of turns_before near_wall_of stop_of blocker_hit corner_hit start_hit along axial_lines do_rsegments_touch crossing_graph cuts_of pieces_of turn_of costs_within turn_depths_of do_touch
a_point_on_the_lower_wall_sees_past_a_box = refl

floors_and_ceilings_bound_fractions :
    text (isovist_table_of (room_with middle) (at 3 0))
    ≡ ended (
    codes "table isovist" ∷ codes "10/1 0/1 10/1 28/3 196/3" ∷ codes "6/1 4/1 4/1 4/1 8/1" ∷ codes "4/1 4/1 4/1 6/1 2/1"
    ∷ codes "14/3 10/1 0/1 10/1 140/3" ∷ codes "0/1 10/1 0/1 0/1 30/1" ∷ codes "total 151 153" ∷ codes "end 5" ∷ [])
unfolding points_table isovist_table axial_table lines_table segments_table turns_table depth_table measures_of depth_of reduced common_divisor digits visibility_edges grid_points is_open is_inside passes_right are_in_sight is_blocked starts_into_wall corner_stops is_in_cone oriented_walls oriented_corners is_counterclockwise edges_to is_on_segment cross_properly isovist_in corner_directions wall_between runs_of triangle_of turns_before near_wall_of stop_of blocker_hit corner_hit start_hit along axial_lines do_rsegments_touch crossing_graph cuts_of pieces_of turn_of costs_within turn_depths_of do_touch
floors_and_ceilings_bound_fractions = refl

-- a number below 0
abbrev minus : ℕ → ℤ
minus n = neg_ℤ (pos n)

-- the widest plan, with a small box at its far corner
abbrev widest : Plan
widest =
    with_obstacles
    (with_outer empty_plan (point (minus 100000) (minus 100000) ∷ point (pos 100000) (minus 100000) ∷ at 100000 100000 ∷ point (minus 100000) (pos 100000) ∷ []))
    (obstacle (codes "A") (point (minus 99999) (pos 99998) ∷ point (minus 99998) (pos 99998) ∷ point (minus 99998) (pos 99999) ∷ point (minus 99999) (pos 99999) ∷ []) ∷ [])

fractions_stay_exact_at_the_limits :
    text (isovist_table_of widest (point (minus 100000) (minus 100000)))
    ≡ ended (
    codes "table isovist" ∷ codes "100000/1 -100000/1 100000/1 100000/1 40000000000/1" ∷ codes "100000/1 100000/1 -9999700000/99999 100000/1 3999920000000000/99999" ∷ codes "-99998/1 99998/1 -99999/1 99998/1 199998/1"
    ∷ codes "-99999/1 99998/1 -99999/1 99999/1 1/1" ∷ codes "-19999700000/199999 100000/1 -100000/1 100000/1 40000000000/199999" ∷ codes "total 79999999995 79999999997" ∷ codes "end 5" ∷ [])
unfolding points_table isovist_table axial_table lines_table segments_table turns_table depth_table measures_of depth_of reduced common_divisor digits visibility_edges grid_points is_open is_inside passes_right are_in_sight is_blocked starts_into_wall corner_stops is_in_cone oriented_walls oriented_corners is_counterclockwise edges_to is_on_segment cross_properly isovist_in corner_directions wall_between runs_of triangle_of turns_before near_wall_of stop_of blocker_hit corner_hit start_hit along axial_lines do_rsegments_touch crossing_graph cuts_of pieces_of turn_of costs_within turn_depths_of do_touch
fractions_stay_exact_at_the_limits = refl

-- the room with a screen in its middle
abbrev screened : Plan
screened = with_screens room (screen (codes "S") (at 5 2) (at 5 8) ∷ [])

a_screen_hides_what_is_behind_it :
    text (isovist_table_of screened (at 0 5))
    ≡ ended (
    codes "table isovist" ∷ codes "5/1 15/2 5/1 8/1 5/2" ∷ codes "25/3 10/1 0/1 10/1 125/3" ∷ codes "0/1 0/1 25/3 0/1 125/3"
    ∷ codes "5/1 2/1 5/1 15/2 55/2" ∷ codes "total 111 115" ∷ codes "end 4" ∷ [])
unfolding points_table isovist_table axial_table lines_table segments_table turns_table depth_table measures_of depth_of reduced common_divisor digits visibility_edges grid_points is_open is_inside passes_right are_in_sight is_blocked starts_into_wall corner_stops is_in_cone oriented_walls oriented_corners is_counterclockwise edges_to is_on_segment cross_properly isovist_in corner_directions wall_between runs_of triangle_of turns_before near_wall_of stop_of blocker_hit corner_hit start_hit along axial_lines do_rsegments_touch crossing_graph cuts_of pieces_of turn_of costs_within turn_depths_of do_touch
a_screen_hides_what_is_behind_it = refl

a_point_on_a_screen_sees_both_sides :
    text (isovist_table_of screened (at 5 5))
    ≡ ended (
    codes "table isovist" ∷ codes "10/1 10/1 0/1 10/1 50/1" ∷ codes "0/1 10/1 0/1 0/1 50/1" ∷ codes "0/1 0/1 10/1 0/1 50/1"
    ∷ codes "10/1 0/1 10/1 10/1 50/1" ∷ codes "total 200 200" ∷ codes "end 4" ∷ [])
unfolding points_table isovist_table axial_table lines_table segments_table turns_table depth_table measures_of depth_of reduced common_divisor digits visibility_edges grid_points is_open is_inside passes_right are_in_sight is_blocked starts_into_wall corner_stops is_in_cone oriented_walls oriented_corners is_counterclockwise edges_to is_on_segment cross_properly isovist_in corner_directions wall_between runs_of triangle_of turns_before near_wall_of stop_of blocker_hit corner_hit start_hit along axial_lines do_rsegments_touch crossing_graph cuts_of pieces_of turn_of costs_within turn_depths_of do_touch
a_point_on_a_screen_sees_both_sides = refl

-- ---- edges, points, depths

a_box_in_the_middle_closes_a_point_and_hides_four_pairs :
    text (edges_table_of (with_this_grid (room_with middle) (grid 5 3 3)))
    ≡ ended (
    codes "table edges" ∷ codes "0 1" ∷ codes "0 2" ∷ codes "0 3"
    ∷ codes "0 5" ∷ codes "0 6" ∷ codes "0 7" ∷ codes "1 2"
    ∷ codes "1 3" ∷ codes "1 5" ∷ codes "1 6" ∷ codes "1 8"
    ∷ codes "2 3" ∷ codes "2 5" ∷ codes "2 7" ∷ codes "2 8"
    ∷ codes "3 6" ∷ codes "3 7" ∷ codes "3 8" ∷ codes "5 6"
    ∷ codes "5 7" ∷ codes "5 8" ∷ codes "6 7" ∷ codes "6 8"
    ∷ codes "7 8" ∷ codes "end 24" ∷ [])
unfolding points_table isovist_table axial_table lines_table segments_table turns_table depth_table measures_of depth_of reduced common_divisor digits visibility_edges grid_points is_open is_inside passes_right are_in_sight is_blocked starts_into_wall corner_stops is_in_cone oriented_walls oriented_corners is_counterclockwise edges_to is_on_segment cross_properly isovist_in corner_directions wall_between runs_of triangle_of turns_before near_wall_of stop_of blocker_hit corner_hit start_hit along axial_lines do_rsegments_touch crossing_graph cuts_of pieces_of turn_of costs_within turn_depths_of do_touch
a_box_in_the_middle_closes_a_point_and_hides_four_pairs = refl

a_screen_hides_seven_pairs :
    text (edges_table_of (with_this_grid screened (grid 5 3 3)))
    ≡ ended (
    codes "table edges" ∷ codes "0 1" ∷ codes "0 2" ∷ codes "0 3"
    ∷ codes "0 4" ∷ codes "0 6" ∷ codes "0 7" ∷ codes "1 2"
    ∷ codes "1 3" ∷ codes "1 4" ∷ codes "1 5" ∷ codes "1 6"
    ∷ codes "1 7" ∷ codes "1 8" ∷ codes "2 4" ∷ codes "2 5"
    ∷ codes "2 7" ∷ codes "2 8" ∷ codes "3 4" ∷ codes "3 6"
    ∷ codes "3 7" ∷ codes "4 5" ∷ codes "4 6" ∷ codes "4 7"
    ∷ codes "4 8" ∷ codes "5 7" ∷ codes "5 8" ∷ codes "6 7"
    ∷ codes "6 8" ∷ codes "7 8" ∷ codes "end 29" ∷ [])
unfolding points_table isovist_table axial_table lines_table segments_table turns_table depth_table measures_of depth_of reduced common_divisor digits visibility_edges grid_points is_open is_inside passes_right are_in_sight is_blocked starts_into_wall corner_stops is_in_cone oriented_walls oriented_corners is_counterclockwise edges_to is_on_segment cross_properly isovist_in corner_directions wall_between runs_of triangle_of turns_before near_wall_of stop_of blocker_hit corner_hit start_hit along axial_lines do_rsegments_touch crossing_graph cuts_of pieces_of turn_of costs_within turn_depths_of do_touch
a_screen_hides_seven_pairs = refl

-- three boxes beside the diagonal
abbrev three_boxes : List Obstacle
three_boxes = obstacle (codes "A") (box 1 2 2 3) ∷ obstacle (codes "B") (box 3 2 4 3) ∷ obstacle (codes "C") (box 4 5 5 6) ∷ []

a_diagonal_that_grazes_three_boxes_is_free :
    text (edges_table_of (with_this_grid (with_obstacles room three_boxes) (grid 10 2 2)))
    ≡ ended (
    codes "table edges" ∷ codes "0 1" ∷ codes "0 2" ∷ codes "0 3"
    ∷ codes "1 3" ∷ codes "2 3" ∷ codes "end 5" ∷ [])
unfolding points_table isovist_table axial_table lines_table segments_table turns_table depth_table measures_of depth_of reduced common_divisor digits visibility_edges grid_points is_open is_inside passes_right are_in_sight is_blocked starts_into_wall corner_stops is_in_cone oriented_walls oriented_corners is_counterclockwise edges_to is_on_segment cross_properly isovist_in corner_directions wall_between runs_of triangle_of turns_before near_wall_of stop_of blocker_hit corner_hit start_hit along axial_lines do_rsegments_touch crossing_graph cuts_of pieces_of turn_of costs_within turn_depths_of do_touch
a_diagonal_that_grazes_three_boxes_is_free = refl

a_diagonal_into_a_fourth_box_is_blocked :
    text (edges_table_of (with_this_grid (with_obstacles room (three_boxes ++ obstacle (codes "D") (box 6 6 7 7) ∷ [])) (grid 10 2 2)))
    ≡ ended (
    codes "table edges" ∷ codes "0 1" ∷ codes "0 2" ∷ codes "1 3"
    ∷ codes "2 3" ∷ codes "end 4" ∷ [])
unfolding points_table isovist_table axial_table lines_table segments_table turns_table depth_table measures_of depth_of reduced common_divisor digits visibility_edges grid_points is_open is_inside passes_right are_in_sight is_blocked starts_into_wall corner_stops is_in_cone oriented_walls oriented_corners is_counterclockwise edges_to is_on_segment cross_properly isovist_in corner_directions wall_between runs_of triangle_of turns_before near_wall_of stop_of blocker_hit corner_hit start_hit along axial_lines do_rsegments_touch crossing_graph cuts_of pieces_of turn_of costs_within turn_depths_of do_touch
a_diagonal_into_a_fourth_box_is_blocked = refl

-- a flat of two rooms with a column
abbrev flat : Plan
flat =
    with_this_grid
    (with_obstacles
    (with_outer empty_plan (at 0 0 ∷ at 1000 0 ∷ at 1000 600 ∷ at 510 600 ∷ at 510 200 ∷ at 490 200 ∷ at 490 600 ∷ at 0 600 ∷ []))
    (obstacle (codes "column") (box 240 280 260 320) ∷ []))
    (record { step = pos 500; x0 = pos 250; y0 = pos 50; cols = pos 2; rows = pos 2 })

a_flat_of_two_rooms :
    text (edges_table_of flat ++ points_table_of flat)
    ≡ ended (
    codes "table edges" ∷ codes "0 1" ∷ codes "1 3" ∷ codes "end 2"
    ∷ codes "table points" ∷ codes "0 250 50 1 3 3 3/2 1/1" ∷ codes "1 750 50 2 3 2 1/1 0/1" ∷ codes "2 250 550 0 1 0 - -"
    ∷ codes "3 750 550 1 3 3 3/2 1/1" ∷ codes "end 4" ∷ [])
unfolding points_table isovist_table axial_table lines_table segments_table turns_table depth_table measures_of depth_of reduced common_divisor digits visibility_edges grid_points is_open is_inside passes_right are_in_sight is_blocked starts_into_wall corner_stops is_in_cone oriented_walls oriented_corners is_counterclockwise edges_to is_on_segment cross_properly isovist_in corner_directions wall_between runs_of triangle_of turns_before near_wall_of stop_of blocker_hit corner_hit start_hit along axial_lines do_rsegments_touch crossing_graph cuts_of pieces_of turn_of costs_within turn_depths_of do_touch
a_flat_of_two_rooms = refl

a_point_that_nothing_sees_reaches_itself :
    text (depth_table_of flat 2)
    ≡ ended (
    codes "table depth" ∷ codes "0 -" ∷ codes "1 -" ∷ codes "2 0"
    ∷ codes "3 -" ∷ codes "end 4" ∷ [])
unfolding points_table isovist_table axial_table lines_table segments_table turns_table depth_table measures_of depth_of reduced common_divisor digits visibility_edges grid_points is_open is_inside passes_right are_in_sight is_blocked starts_into_wall corner_stops is_in_cone oriented_walls oriented_corners is_counterclockwise edges_to is_on_segment cross_properly isovist_in corner_directions wall_between runs_of triangle_of turns_before near_wall_of stop_of blocker_hit corner_hit start_hit along axial_lines do_rsegments_touch crossing_graph cuts_of pieces_of turn_of costs_within turn_depths_of do_touch
a_point_that_nothing_sees_reaches_itself = refl

-- ---- axial lines

the_lines_of_an_empty_room_and_their_crossings :
    text (axial_table_of room ++ lines_table_of room)
    ≡ ended (
    codes "table axial" ∷ codes "0 0 1 0/1 0/1 10/1 0/1" ∷ codes "1 0 2 0/1 0/1 10/1 10/1" ∷ codes "2 0 3 0/1 0/1 0/1 10/1"
    ∷ codes "3 1 2 10/1 0/1 10/1 10/1" ∷ codes "4 1 3 10/1 0/1 0/1 10/1" ∷ codes "5 2 3 10/1 10/1 0/1 10/1" ∷ codes "end 6"
    ∷ codes "table lines" ∷ codes "0 4 6 6 6/5 1/10" ∷ codes "1 5 6 5 1/1 0/1" ∷ codes "2 4 6 6 6/5 1/10"
    ∷ codes "3 4 6 6 6/5 1/10" ∷ codes "4 5 6 5 1/1 0/1" ∷ codes "5 4 6 6 6/5 1/10" ∷ codes "end 6" ∷ [])
unfolding points_table isovist_table axial_table lines_table segments_table turns_table depth_table measures_of depth_of reduced common_divisor digits visibility_edges grid_points is_open is_inside passes_right are_in_sight is_blocked starts_into_wall corner_stops is_in_cone oriented_walls oriented_corners is_counterclockwise edges_to is_on_segment cross_properly isovist_in corner_directions wall_between runs_of triangle_of turns_before near_wall_of stop_of blocker_hit corner_hit start_hit along axial_lines do_rsegments_touch crossing_graph cuts_of pieces_of turn_of costs_within turn_depths_of do_touch
the_lines_of_an_empty_room_and_their_crossings = refl

a_box_in_the_middle_leaves_twenty_lines : length (axial_lines (scene_of (room_with middle))) ≡ 20
unfolding points_table isovist_table axial_table lines_table segments_table turns_table depth_table measures_of depth_of reduced common_divisor digits visibility_edges grid_points is_open is_inside passes_right are_in_sight is_blocked starts_into_wall corner_stops is_in_cone oriented_walls oriented_corners is_counterclockwise edges_to is_on_segment cross_properly isovist_in corner_directions wall_between runs_of triangle_of turns_before near_wall_of stop_of blocker_hit corner_hit start_hit along axial_lines do_rsegments_touch crossing_graph cuts_of pieces_of turn_of costs_within turn_depths_of do_touch
a_box_in_the_middle_leaves_twenty_lines = refl

-- ---- routes

-- one route along the axis, one across it
abbrev crossed : Plan
crossed = with_routes room (route (codes "A") (at 0 0) (at 10 0) ∷ route (codes "B") (point (pos 5) (minus 5)) (at 5 5) ∷ [])

turns_and_pieces_of_two_routes_that_cross :
    text (turns_table_of crossed 0 ++ segments_table_of crossed)
    ≡ ended (
    codes "table turns" ∷ codes "0 0" ∷ codes "1 0" ∷ codes "2 8"
    ∷ codes "3 8" ∷ codes "total 4 16 16/3" ∷ codes "end 4" ∷ codes "table segments"
    ∷ codes "0 A 0/1 0/1 5/1 0/1 3" ∷ codes "1 A 5/1 0/1 10/1 0/1 3" ∷ codes "2 B 5/1 -5/1 5/1 0/1 3" ∷ codes "3 B 5/1 0/1 5/1 5/1 3"
    ∷ codes "end 4" ∷ [])
unfolding points_table isovist_table axial_table lines_table segments_table turns_table depth_table measures_of depth_of reduced common_divisor digits visibility_edges grid_points is_open is_inside passes_right are_in_sight is_blocked starts_into_wall corner_stops is_in_cone oriented_walls oriented_corners is_counterclockwise edges_to is_on_segment cross_properly isovist_in corner_directions wall_between runs_of triangle_of turns_before near_wall_of stop_of blocker_hit corner_hit start_hit along axial_lines do_rsegments_touch crossing_graph cuts_of pieces_of turn_of costs_within turn_depths_of do_touch
turns_and_pieces_of_two_routes_that_cross = refl

-- two routes that share an end
abbrev bent : Plan
bent = with_routes room (route (codes "A") (at 0 0) (at 10 0) ∷ route (codes "B") (at 10 0) (at 10 10) ∷ [])

a_shared_end_is_turned_at :
    text (turns_table_of bent 0)
    ≡ ended (
    codes "table turns" ∷ codes "0 0" ∷ codes "1 8" ∷ codes "total 2 8 8/1"
    ∷ codes "end 2" ∷ [])
unfolding points_table isovist_table axial_table lines_table segments_table turns_table depth_table measures_of depth_of reduced common_divisor digits visibility_edges grid_points is_open is_inside passes_right are_in_sight is_blocked starts_into_wall corner_stops is_in_cone oriented_walls oriented_corners is_counterclockwise edges_to is_on_segment cross_properly isovist_in corner_directions wall_between runs_of triangle_of turns_before near_wall_of stop_of blocker_hit corner_hit start_hit along axial_lines do_rsegments_touch crossing_graph cuts_of pieces_of turn_of costs_within turn_depths_of do_touch
a_shared_end_is_turned_at = refl

-- First refusals, and plans after edits.
use Rattle.std.specs.Prelude.{◌≡◌, refl, [], ◌∷◌, codes, Some, None, Err, pos, negsuc, true, false}
use Rattle.plane_spec.specs.Segments.{is_on_segment, cross_properly, do_touch}
use Rattle.plane_spec.specs.Polygons.{edges_to, passes_right, is_inside, may_be_edges, crosses_nowhere}
use Rattle.plan_spec.specs.declared.item.Item.TheVariants.{Grid, Outer, Obstacle as ObstacleItem}
use Rattle.plan_spec.specs.declared.edit.Edit.TheVariants.{Add, Remove, Move, AddScreen, RemoveScreen, AddRoute}
use Rattle.plan_spec.specs.declared.why.Why.TheVariants.{Order, Count, Range, Repeat, Cross, Outside, Touch, Screen as TouchesScreen, NameTaken, Missing, Full, Overlap}
use Rattle.plan_spec.specs.declared.why.Limit.TheVariants.{Points as GridPoints}
use Rattle.plan_spec.specs.Plan.{Plan, obstacle, screen, route, with_screens, with_routes, with_item, with_items}
use Rattle.plan_spec.specs.Accepted.{lies_within, polygons_meet, segment_lies_within, segment_meets_polygon, do_segments_overlap, is_grid_in_range, are_obstacles_sound, are_screens_sound, are_routes_sound, is_within_limits, is_sound, are_in_order, is_accepted}
use Rattle.plan_spec.specs.Refusals.{why_not_polygon, why_not_segment, why_not_polygon_in, why_not_segment_in, why_not_outer, why_not_grid, why_not_obstacle, why_not_screen, why_not_route, check_from, check_of}
use Rattle.plan_spec.specs.Edits.{why_not_moved, why_not_edit, plan_after_edit}
use Rattle.plan_spec.proofs.Figures.{at, box, room, room_with, room_with_two, grid}

-- the room with a box from (2,2) to (4,4)
abbrev one_box : Plan
one_box = room_with (obstacle (codes "A") (box 2 2 4 4))

a_box_that_shares_a_corner_touches : why_not_edit one_box (Add (codes "B") (box 4 4 6 6)) ≡ Some (Touch (codes "A"))
unfolding why_not_edit why_not_obstacle why_not_polygon why_not_polygon_in crosses_nowhere may_be_edges edges_to lies_within polygons_meet is_inside passes_right do_touch cross_properly is_on_segment
a_box_that_shares_a_corner_touches = refl

a_box_round_another_touches : why_not_edit one_box (Add (codes "B") (box 1 1 5 5)) ≡ Some (Touch (codes "A"))
unfolding why_not_edit why_not_obstacle why_not_polygon why_not_polygon_in crosses_nowhere may_be_edges edges_to lies_within polygons_meet is_inside passes_right do_touch cross_properly is_on_segment
a_box_round_another_touches = refl

a_box_on_the_outer_wall_is_outside : why_not_edit one_box (Add (codes "B") (box 0 6 2 8)) ≡ Some Outside
unfolding why_not_edit why_not_obstacle why_not_polygon why_not_polygon_in crosses_nowhere may_be_edges edges_to lies_within polygons_meet is_inside passes_right do_touch cross_properly is_on_segment
a_box_on_the_outer_wall_is_outside = refl

a_name_in_use_is_taken : why_not_edit one_box (Add (codes "A") (box 6 6 8 8)) ≡ Some NameTaken
unfolding why_not_edit why_not_obstacle why_not_polygon why_not_polygon_in crosses_nowhere may_be_edges edges_to lies_within polygons_meet is_inside passes_right do_touch cross_properly is_on_segment
a_name_in_use_is_taken = refl

the_same_box_again_touches_before_its_name_is_taken : why_not_edit one_box (Add (codes "A") (box 2 2 4 4)) ≡ Some (Touch (codes "A"))
unfolding why_not_edit why_not_obstacle why_not_polygon why_not_polygon_in crosses_nowhere may_be_edges edges_to lies_within polygons_meet is_inside passes_right do_touch cross_properly is_on_segment
the_same_box_again_touches_before_its_name_is_taken = refl

what_is_not_there_is_missing : why_not_edit one_box (Remove (codes "Z")) ≡ Some Missing
unfolding why_not_edit
what_is_not_there_is_missing = refl

two_points_are_too_few : why_not_edit room (Add (codes "P") (at 2 2 ∷ at 4 4 ∷ [])) ≡ Some Count
unfolding why_not_edit why_not_obstacle why_not_polygon why_not_polygon_in
two_points_are_too_few = refl

a_coordinate_past_the_range_is_told : why_not_edit room (Add (codes "P") (at 2 2 ∷ at 6 2 ∷ at 100001 6 ∷ [])) ≡ Some Range
unfolding why_not_edit why_not_obstacle why_not_polygon why_not_polygon_in
a_coordinate_past_the_range_is_told = refl

neighbouring_points_that_are_equal_are_told : why_not_edit room (Add (codes "P") (at 2 2 ∷ at 4 2 ∷ at 4 2 ∷ at 3 4 ∷ [])) ≡ Some Repeat
unfolding why_not_edit why_not_obstacle why_not_polygon why_not_polygon_in edges_to
neighbouring_points_that_are_equal_are_told = refl

a_bow_tie_crosses_itself : why_not_edit room (Add (codes "P") (at 2 2 ∷ at 6 6 ∷ at 6 2 ∷ at 2 6 ∷ [])) ≡ Some Cross
unfolding why_not_edit why_not_obstacle why_not_polygon why_not_polygon_in crosses_nowhere may_be_edges edges_to do_touch cross_properly is_on_segment
a_bow_tie_crosses_itself = refl

a_flat_triangle_crosses_itself : why_not_edit room (Add (codes "P") (at 2 2 ∷ at 6 2 ∷ at 4 2 ∷ [])) ≡ Some Cross
unfolding why_not_edit why_not_obstacle why_not_polygon why_not_polygon_in crosses_nowhere may_be_edges edges_to do_touch cross_properly is_on_segment
a_flat_triangle_crosses_itself = refl

a_polygon_with_a_straight_corner_is_taken : why_not_edit room (Add (codes "P") (at 2 2 ∷ at 4 2 ∷ at 6 2 ∷ at 4 6 ∷ [])) ≡ None
unfolding why_not_edit why_not_obstacle why_not_polygon why_not_polygon_in crosses_nowhere may_be_edges edges_to lies_within polygons_meet is_inside passes_right do_touch cross_properly is_on_segment
a_polygon_with_a_straight_corner_is_taken = refl

-- two boxes side by side
abbrev two_boxes : Plan
two_boxes = room_with_two (obstacle (codes "A") (box 1 1 3 3)) (obstacle (codes "B") (box 5 5 7 7))

a_move_onto_another_touches_it : why_not_edit two_boxes (Move (codes "A") (pos 3) (pos 3)) ≡ Some (Touch (codes "B"))
unfolding why_not_edit why_not_moved why_not_polygon_in lies_within polygons_meet edges_to is_inside passes_right do_touch cross_properly is_on_segment
a_move_onto_another_touches_it = refl

a_move_leaves_out_its_own_place : why_not_edit two_boxes (Move (codes "A") (pos 1) (pos 0)) ≡ None
unfolding why_not_edit why_not_moved why_not_polygon_in lies_within polygons_meet edges_to is_inside passes_right do_touch cross_properly is_on_segment
a_move_leaves_out_its_own_place = refl

a_move_keeps_the_place_among_the_obstacles :
    plan_after_edit two_boxes (Move (codes "A") (pos 6) (pos 0)) ≡ room_with_two (obstacle (codes "A") (box 7 1 9 3)) (obstacle (codes "B") (box 5 5 7 7))
unfolding plan_after_edit
a_move_keeps_the_place_among_the_obstacles = refl

a_removal_closes_up : plan_after_edit two_boxes (Remove (codes "A")) ≡ room_with (obstacle (codes "B") (box 5 5 7 7))
unfolding plan_after_edit
a_removal_closes_up = refl

-- a box and a screen in the room
abbrev screened : Plan
screened = with_screens (room_with (obstacle (codes "A") (box 4 4 6 6))) (screen (codes "S") (at 1 1) (at 1 9) ∷ [])

a_screen_from_the_outer_wall_is_outside : why_not_edit screened (AddScreen (codes "T") (at 0 5) (at 2 5)) ≡ Some Outside
unfolding why_not_edit why_not_screen why_not_segment why_not_segment_in segment_lies_within segment_meets_polygon edges_to is_inside passes_right do_touch cross_properly is_on_segment
a_screen_from_the_outer_wall_is_outside = refl

a_screen_into_a_box_touches_it : why_not_edit screened (AddScreen (codes "T") (at 3 5) (at 5 5)) ≡ Some (Touch (codes "A"))
unfolding why_not_edit why_not_screen why_not_segment why_not_segment_in segment_lies_within segment_meets_polygon edges_to is_inside passes_right do_touch cross_properly is_on_segment
a_screen_into_a_box_touches_it = refl

a_screen_that_ends_on_another_touches_it : why_not_edit screened (AddScreen (codes "T") (at 1 5) (at 3 5)) ≡ Some (TouchesScreen (codes "S"))
unfolding why_not_edit why_not_screen why_not_segment why_not_segment_in segment_lies_within segment_meets_polygon edges_to is_inside passes_right do_touch cross_properly is_on_segment
a_screen_that_ends_on_another_touches_it = refl

a_screen_of_a_name_in_use_is_taken : why_not_edit screened (AddScreen (codes "S") (at 2 2) (at 2 8)) ≡ Some NameTaken
unfolding why_not_edit why_not_screen why_not_segment why_not_segment_in segment_lies_within segment_meets_polygon edges_to is_inside passes_right do_touch cross_properly is_on_segment
a_screen_of_a_name_in_use_is_taken = refl

a_screen_of_one_point_repeats_it : why_not_edit screened (AddScreen (codes "T") (at 3 3) (at 3 3)) ≡ Some Repeat
unfolding why_not_edit why_not_screen why_not_segment why_not_segment_in
a_screen_of_one_point_repeats_it = refl

a_screen_that_is_not_there_is_missing : why_not_edit screened (RemoveScreen (codes "Z")) ≡ Some Missing
unfolding why_not_edit
a_screen_that_is_not_there_is_missing = refl

a_box_across_a_screen_touches_it : why_not_edit screened (Add (codes "B") (box 1 2 3 3)) ≡ Some (TouchesScreen (codes "S"))
unfolding why_not_edit why_not_obstacle why_not_polygon why_not_polygon_in crosses_nowhere may_be_edges segment_meets_polygon edges_to lies_within polygons_meet is_inside passes_right do_touch cross_properly is_on_segment
a_box_across_a_screen_touches_it = refl

a_move_across_a_screen_touches_it : why_not_edit screened (Move (codes "A") (negsuc 2) (pos 0)) ≡ Some (TouchesScreen (codes "S"))
unfolding why_not_edit why_not_moved why_not_polygon_in segment_meets_polygon edges_to lies_within polygons_meet is_inside passes_right do_touch cross_properly is_on_segment
a_move_across_a_screen_touches_it = refl

a_move_to_the_outer_wall_is_outside : why_not_edit screened (Move (codes "A") (negsuc 3) (pos 0)) ≡ Some Outside
unfolding why_not_edit why_not_moved why_not_polygon_in segment_meets_polygon edges_to lies_within polygons_meet is_inside passes_right do_touch cross_properly is_on_segment
a_move_to_the_outer_wall_is_outside = refl

-- routes
abbrev routed : Plan
routed = with_routes room (route (codes "A") (at 0 0) (at 10 0) ∷ [])

a_route_along_another_overlaps_it : why_not_edit routed (AddRoute (codes "C") (at 2 0) (at 4 0)) ≡ Some (Overlap (codes "A"))
unfolding why_not_edit why_not_route why_not_segment do_segments_overlap is_on_segment
a_route_along_another_overlaps_it = refl

a_route_that_goes_on_where_another_ends_is_taken : why_not_edit routed (AddRoute (codes "C") (at 10 0) (at 14 0)) ≡ None
unfolding why_not_edit why_not_route why_not_segment do_segments_overlap is_on_segment
a_route_that_goes_on_where_another_ends_is_taken = refl

-- ---- whole lists of items

without_items_the_outer_polygon_is_missed : check_of [] ≡ Err (0, Order)
unfolding check_from
without_items_the_outer_polygon_is_missed = refl

an_obstacle_before_the_outer_polygon_is_out_of_order : check_of (ObstacleItem (codes "A") (box 2 2 4 4) ∷ Outer (box 0 0 10 10) ∷ []) ≡ Err (0, Order)
unfolding check_from why_not_obstacle
an_obstacle_before_the_outer_polygon_is_out_of_order = refl

a_grid_of_too_many_points_is_full : check_of (Outer (box 0 0 10 10) ∷ Grid (grid 1 65 64) ∷ []) ≡ Err (1, Full GridPoints)
unfolding check_from why_not_outer why_not_polygon why_not_grid is_grid_in_range with_item crosses_nowhere may_be_edges edges_to do_touch cross_properly is_on_segment
a_grid_of_too_many_points_is_full = refl

a_second_grid_is_out_of_order : check_of (Outer (box 0 0 10 10) ∷ Grid (grid 1 2 2) ∷ Grid (grid 1 2 2) ∷ []) ≡ Err (2, Order)
unfolding check_from why_not_outer why_not_polygon why_not_grid is_grid_in_range with_item crosses_nowhere may_be_edges edges_to do_touch cross_properly is_on_segment
a_second_grid_is_out_of_order = refl

a_room_with_a_box_is_accepted : is_accepted (Outer (box 0 0 10 10) ∷ Grid (grid 1 2 2) ∷ ObstacleItem (codes "A") (box 2 2 4 4) ∷ []) ≡ true
unfolding is_accepted are_in_order is_sound are_obstacles_sound are_screens_sound are_routes_sound is_within_limits lies_within is_grid_in_range with_item with_items crosses_nowhere may_be_edges edges_to is_inside passes_right do_touch cross_properly is_on_segment
a_room_with_a_box_is_accepted = refl

boxes_that_share_a_corner_are_not_accepted : is_accepted (Outer (box 0 0 10 10) ∷ ObstacleItem (codes "A") (box 2 2 4 4) ∷ ObstacleItem (codes "B") (box 4 4 6 6) ∷ []) ≡ false
unfolding is_accepted are_in_order is_sound are_obstacles_sound are_screens_sound are_routes_sound is_within_limits lies_within polygons_meet is_grid_in_range with_item with_items crosses_nowhere may_be_edges edges_to is_inside passes_right do_touch cross_properly is_on_segment
boxes_that_share_a_corner_are_not_accepted = refl

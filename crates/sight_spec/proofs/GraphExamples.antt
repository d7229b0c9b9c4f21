-- Depths and measures of small graphs, and what an edit leaves clean.
use Rattle.std.specs.Prelude.{◌≡◌, refl, ℕ, ◌==◌, ◌&&◌, ◌||◌, List, [], ◌∷◌, Some, None, pos, true, false}
use Rattle.std.specs.List.{list_any}
use Rattle.plane_spec.specs.Segments.{is_on_segment, cross_properly}
use Rattle.plane_spec.specs.Polygons.{edges_to, is_counterclockwise}
use Rattle.plane_spec.specs.Cones.{is_in_cone}
use Rattle.plane_spec.specs.Fractions.{fraction, whole, reduced, common_divisor, along}
use Rattle.plane_spec.specs.Boxes.{is_box_left_of_line, does_meet_box, does_extent_meet_box, with_points}
use Rattle.plan_spec.specs.declared.edit.Edit.TheVariants.{Add, AddRoute}
use Rattle.sight_spec.specs.Scene.{Scene, oriented_walls, oriented_corners, scene_of}
use Rattle.sight_spec.specs.Sight.{starts_into_wall, corner_stops, is_blocked, are_in_sight}
use Rattle.sight_spec.specs.Stops.{blocker_hit, corner_hit, start_hit, stop_of}
use Rattle.sight_spec.specs.Axial.{AxialLine, axial_lines}
use Rattle.graph_spec.specs.Graphs.{Graph, graph_where, edges_of, depth_of, depths_of, measures_of}
use Rattle.plan_spec.specs.Grid.{grid_points}
use Rattle.plan_spec.specs.Edits.{changed_boxes}
use Rattle.sight_spec.specs.Dirty.{is_dirty_pair, is_dirty_row, is_dirty_line, is_dirty_corner, dirty_corners, dirty_corner_count}
use Rattle.plan_spec.proofs.Figures.{at, box, room, room_with, middle, grid}

-- the graph of so many nodes with these edges
abbrev graph_of_edges : ℕ → List (ℕ × ℕ) → Graph
graph_of_edges count edges =
    graph_where count (λ i j. list_any (λ e. (e.0 == i && e.1 == j) || (e.0 == j && e.1 == i)) edges)

-- all pairs of four nodes but 0 and 3
abbrev square : Graph
square = graph_of_edges 4 ((0, 1) ∷ (0, 2) ∷ (1, 2) ∷ (1, 3) ∷ (2, 3) ∷ [])

-- two nodes that are joined, and one apart
abbrev parted : Graph
parted = graph_of_edges 3 ((0, 1) ∷ [])

the_edges_of_a_graph_stand_in_order : edges_of square ≡ (0, 1) ∷ (0, 2) ∷ (1, 2) ∷ (1, 3) ∷ (2, 3) ∷ []
unfolding edges_of
the_edges_of_a_graph_stand_in_order = refl

the_node_across_is_two_edges_away : depths_of square 0 ≡ Some 0 ∷ Some 1 ∷ Some 1 ∷ Some 2 ∷ []
unfolding depth_of
the_node_across_is_two_edges_away = refl

a_node_apart_has_no_depth : depths_of parted 0 ≡ Some 0 ∷ Some 1 ∷ None ∷ []
unfolding depth_of
a_node_apart_has_no_depth = refl

mean_depth_and_asymmetry_count_the_nodes_reached :
    measures_of square 0 ≡ record { connectivity = 2; reached = 4; total = 4; mean = Some (fraction (pos 4) (pos 3)); asymmetry = Some (fraction (pos 1) (pos 3)) }
unfolding measures_of depth_of reduced common_divisor
mean_depth_and_asymmetry_count_the_nodes_reached = refl

two_nodes_have_a_mean_depth_and_no_asymmetry : measures_of parted 0 ≡ record { connectivity = 1; reached = 2; total = 1; mean = Some (whole (pos 1)); asymmetry = None }
unfolding measures_of depth_of reduced common_divisor
two_nodes_have_a_mean_depth_and_no_asymmetry = refl

a_lone_node_reaches_itself : measures_of parted 2 ≡ record { connectivity = 0; reached = 1; total = 0; mean = None; asymmetry = None }
unfolding measures_of depth_of reduced common_divisor
a_lone_node_reaches_itself = refl

a_box_in_the_middle_makes_a_pair_across_dirty : is_dirty_pair (changed_boxes room (Add [] (box 4 4 6 6))) (at 0 0) (at 10 10) ≡ true
unfolding is_dirty_pair changed_boxes with_points does_meet_box is_box_left_of_line
a_box_in_the_middle_makes_a_pair_across_dirty = refl

a_box_in_the_middle_leaves_the_last_row_clean : is_dirty_row (changed_boxes room (Add [] (box 4 4 6 6))) (grid_points (Some (grid 5 3 3))) 5 ≡ false
unfolding is_dirty_pair changed_boxes with_points does_meet_box is_box_left_of_line grid_points
a_box_in_the_middle_leaves_the_last_row_clean = refl

a_box_in_the_middle_makes_the_row_of_its_centre_dirty : is_dirty_row (changed_boxes room (Add [] (box 4 4 6 6))) (grid_points (Some (grid 5 3 3))) 4 ≡ true
unfolding is_dirty_pair changed_boxes with_points does_meet_box is_box_left_of_line grid_points
a_box_in_the_middle_makes_the_row_of_its_centre_dirty = refl

-- the room's walls, corners and axial lines
abbrev bare : Scene
bare = scene_of room

abbrev bare_lines : List AxialLine
bare_lines = axial_lines bare

-- the old corners see the new ones
a_new_box_makes_each_corner_dirty :
    dirty_corner_count (changed_boxes room (Add [] (box 4 4 6 6))) bare bare_lines (scene_of (room_with middle)) ≡ 8
unfolding is_dirty_corner is_dirty_line is_dirty_pair changed_boxes with_points does_meet_box does_extent_meet_box is_box_left_of_line axial_lines are_in_sight is_blocked starts_into_wall corner_stops stop_of blocker_hit corner_hit start_hit is_in_cone oriented_walls oriented_corners is_counterclockwise edges_to is_on_segment cross_properly along reduced common_divisor
a_new_box_makes_each_corner_dirty = refl

a_new_route_makes_no_corner_dirty :
    dirty_corners (changed_boxes room (AddRoute [] (at 1 1) (at 9 9))) bare bare_lines bare ≡ []
unfolding is_dirty_corner is_dirty_line is_dirty_pair changed_boxes with_points does_meet_box does_extent_meet_box is_box_left_of_line axial_lines are_in_sight is_blocked starts_into_wall corner_stops stop_of blocker_hit corner_hit start_hit is_in_cone oriented_walls oriented_corners is_counterclockwise edges_to is_on_segment cross_properly along reduced common_divisor
a_new_route_makes_no_corner_dirty = refl

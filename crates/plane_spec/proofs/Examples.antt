-- The definitions on small figures.
use Rattle.std.specs.Prelude.{◌≡◌, refl, List, [], ◌∷◌, ℤ, pos, negsuc, true, false}
use Rattle.std.specs.declared.cmp.Ordering.TheVariants.{Less, Equal, Greater}
use Rattle.plane_spec.specs.declared.Point.{Point}
use Rattle.plane_spec.specs.Vectors.{point, turns_before, turn_order_of}
use Rattle.plane_spec.specs.Segments.{is_on_segment, cross_properly, do_touch}
use Rattle.plane_spec.specs.Polygons.{edges_to, passes_right, is_inside, is_counterclockwise, may_be_edges, crosses_nowhere, is_simple}
use Rattle.plane_spec.specs.Cones.{corner, is_in_cone}
use Rattle.plane_spec.specs.Fractions.{fraction, whole, common_divisor, reduced, floor_of, ceil_of, value_order_of, along}
use Rattle.plane_spec.specs.Boxes.{is_box_left_of_line, does_meet_box, does_extent_meet_box}

abbrev at : ℤ → ℤ → Point
at x y = point x y

-- the box from (0,0) to (10,10), counterclockwise
abbrev box : List Point
box = at (pos 0) (pos 0) ∷ at (pos 10) (pos 0) ∷ at (pos 10) (pos 10) ∷ at (pos 0) (pos 10) ∷ []

-- a diamond round (5,5)
abbrev diamond : List Point
diamond = at (pos 5) (pos 0) ∷ at (pos 10) (pos 5) ∷ at (pos 5) (pos 10) ∷ at (pos 0) (pos 5) ∷ []

-- ---- segments

an_end_lies_on_the_segment : is_on_segment (at (pos 4) (pos 2)) (at (pos 0) (pos 0)) (at (pos 4) (pos 2)) ≡ true
unfolding is_on_segment
an_end_lies_on_the_segment = refl

in_line_beyond_the_end_is_off_the_segment : is_on_segment (at (pos 6) (pos 3)) (at (pos 0) (pos 0)) (at (pos 4) (pos 2)) ≡ false
unfolding is_on_segment
in_line_beyond_the_end_is_off_the_segment = refl

segments_in_line_that_share_an_end_touch : do_touch (at (pos 0) (pos 0)) (at (pos 2) (pos 0)) (at (pos 2) (pos 0)) (at (pos 5) (pos 0)) ≡ true
unfolding do_touch cross_properly is_on_segment
segments_in_line_that_share_an_end_touch = refl

an_end_on_the_other_is_no_proper_crossing : cross_properly (at (pos 0) (pos 0)) (at (pos 4) (pos 0)) (at (pos 2) (pos 0)) (at (pos 2) (pos 3)) ≡ false
unfolding cross_properly
an_end_on_the_other_is_no_proper_crossing = refl

-- ---- polygons

the_middle_is_inside : is_inside (at (pos 5) (pos 5)) box ≡ true
unfolding is_inside edges_to is_on_segment passes_right
the_middle_is_inside = refl

the_border_is_not_inside : is_inside (at (pos 0) (pos 5)) box ≡ false
unfolding is_inside edges_to is_on_segment passes_right
the_border_is_not_inside = refl

a_point_level_with_a_corner_counts_it_once : is_inside (at (pos 2) (pos 5)) diamond ≡ true
unfolding is_inside edges_to is_on_segment passes_right
a_point_level_with_a_corner_counts_it_once = refl

a_point_below_that_is_level_with_a_tip_is_outside : is_inside (at (pos 0) (pos 0)) diamond ≡ false
unfolding is_inside edges_to is_on_segment passes_right
a_point_below_that_is_level_with_a_tip_is_outside = refl

the_box_goes_round_counterclockwise : is_counterclockwise box ≡ true
unfolding is_counterclockwise edges_to
the_box_goes_round_counterclockwise = refl

a_box_is_simple : is_simple box ≡ true
unfolding crosses_nowhere may_be_edges edges_to do_touch cross_properly is_on_segment
a_box_is_simple = refl

a_triangle_with_a_straight_corner_is_simple : is_simple (at (pos 0) (pos 0) ∷ at (pos 2) (pos 0) ∷ at (pos 4) (pos 0) ∷ at (pos 2) (pos 3) ∷ []) ≡ true
unfolding crosses_nowhere may_be_edges edges_to do_touch cross_properly is_on_segment
a_triangle_with_a_straight_corner_is_simple = refl

a_bow_tie_is_not_simple : is_simple (at (pos 2) (pos 2) ∷ at (pos 6) (pos 6) ∷ at (pos 6) (pos 2) ∷ at (pos 2) (pos 6) ∷ []) ≡ false
unfolding crosses_nowhere may_be_edges edges_to do_touch cross_properly is_on_segment
a_bow_tie_is_not_simple = refl

a_flat_triangle_is_not_simple : is_simple (at (pos 2) (pos 2) ∷ at (pos 6) (pos 2) ∷ at (pos 4) (pos 2) ∷ []) ≡ false
unfolding crosses_nowhere may_be_edges edges_to do_touch cross_properly is_on_segment
a_flat_triangle_is_not_simple = refl

a_repeated_point_is_not_simple : is_simple (at (pos 2) (pos 2) ∷ at (pos 4) (pos 2) ∷ at (pos 4) (pos 2) ∷ at (pos 3) (pos 4) ∷ []) ≡ false
unfolding crosses_nowhere may_be_edges edges_to do_touch cross_properly is_on_segment
a_repeated_point_is_not_simple = refl

-- ---- cones: the lower left corner of a box that stands counterclockwise, so that the box is left of its walls

the_diagonal_into_the_box_is_in_the_cone : is_in_cone (corner (at (pos 0) (pos 10)) (at (pos 0) (pos 0)) (at (pos 10) (pos 0))) (at (pos 1) (pos 1)) ≡ true
unfolding is_in_cone
the_diagonal_into_the_box_is_in_the_cone = refl

along_a_wall_is_not_in_the_cone : is_in_cone (corner (at (pos 0) (pos 10)) (at (pos 0) (pos 0)) (at (pos 10) (pos 0))) (at (pos 1) (pos 0)) ≡ false
unfolding is_in_cone
along_a_wall_is_not_in_the_cone = refl

away_from_the_box_is_not_in_the_cone : is_in_cone (corner (at (pos 0) (pos 10)) (at (pos 0) (pos 0)) (at (pos 10) (pos 0))) (at (negsuc 0) (negsuc 0)) ≡ false
unfolding is_in_cone
away_from_the_box_is_not_in_the_cone = refl

-- at the lower left corner of the outer box, whose walls go clockwise, all but the room is blocked
outside_a_room_is_in_the_cone_of_its_corner : is_in_cone (corner (at (pos 10) (pos 0)) (at (pos 0) (pos 0)) (at (pos 0) (pos 10))) (at (negsuc 0) (pos 1)) ≡ true
unfolding is_in_cone
outside_a_room_is_in_the_cone_of_its_corner = refl

-- ---- the order of directions

the_order_begins_along_the_axis : turn_order_of (at (pos 1) (pos 0)) (at (pos 5) (pos 1)) ≡ Less
unfolding turn_order_of turns_before
the_order_begins_along_the_axis = refl

straight_left_comes_before_straight_down : turn_order_of (at (negsuc 0) (pos 0)) (at (pos 0) (negsuc 2)) ≡ Less
unfolding turn_order_of turns_before
straight_left_comes_before_straight_down = refl

opposite_directions_are_not_equal : turn_order_of (at (negsuc 0) (pos 0)) (at (pos 1) (pos 0)) ≡ Greater
unfolding turn_order_of turns_before
opposite_directions_are_not_equal = refl

multiples_are_equal : turn_order_of (at (negsuc 1) (pos 4)) (at (negsuc 0) (pos 2)) ≡ Equal
unfolding turn_order_of turns_before
multiples_are_equal = refl

-- ---- fractions

a_fraction_is_reduced : reduced (fraction (pos 4) (negsuc 5)) ≡ fraction (negsuc 1) (pos 3)
unfolding reduced common_divisor
a_fraction_is_reduced = refl

nothing_is_zero_over_one : reduced (fraction (pos 0) (pos 7)) ≡ whole (pos 0)
unfolding reduced common_divisor
nothing_is_zero_over_one = refl

the_floor_of_a_negative_lies_below : floor_of (fraction (negsuc 6) (pos 2)) ≡ negsuc 3
the_floor_of_a_negative_lies_below = refl

the_ceiling_of_a_negative_lies_above : ceil_of (fraction (negsuc 6) (pos 2)) ≡ negsuc 2
the_ceiling_of_a_negative_lies_above = refl

a_whole_number_is_its_floor_and_ceiling : floor_of (whole (negsuc 4)) ≡ ceil_of (whole (negsuc 4))
a_whole_number_is_its_floor_and_ceiling = refl

two_thirds_are_less_than_three_quarters : value_order_of (fraction (pos 2) (pos 3)) (fraction (pos 3) (pos 4)) ≡ Less
unfolding value_order_of
two_thirds_are_less_than_three_quarters = refl

a_point_along_a_ray_is_in_lowest_terms : along (at (pos 1) (pos 2)) (at (pos 3) (pos 4)) (fraction (pos 1) (pos 2)) ≡ record { x = fraction (pos 5) (pos 2); y = whole (pos 4) }
unfolding along reduced common_divisor
a_point_along_a_ray_is_in_lowest_terms = refl

-- ---- boxes: the box from (4,4) to (6,6)

a_segment_below_the_box_misses_it : does_meet_box (at (pos 0) (pos 0)) (at (pos 10) (pos 5)) (record { low = at (pos 4) (pos 4); high = at (pos 6) (pos 6) }) ≡ false
unfolding does_meet_box is_box_left_of_line
a_segment_below_the_box_misses_it = refl

a_diagonal_meets_the_box : does_meet_box (at (pos 0) (pos 0)) (at (pos 10) (pos 10)) (record { low = at (pos 4) (pos 4); high = at (pos 6) (pos 6) }) ≡ true
unfolding does_meet_box is_box_left_of_line
a_diagonal_meets_the_box = refl

a_segment_along_the_border_meets_the_box : does_meet_box (at (pos 0) (pos 4)) (at (pos 4) (pos 4)) (record { low = at (pos 4) (pos 4); high = at (pos 6) (pos 6) }) ≡ true
unfolding does_meet_box is_box_left_of_line
a_segment_along_the_border_meets_the_box = refl

an_extent_ends_before_the_box : does_extent_meet_box (at (pos 0) (pos 0)) (at (pos 1) (pos 1)) (along (at (pos 0) (pos 0)) (at (pos 1) (pos 1)) (whole (pos 0))) (along (at (pos 0) (pos 0)) (at (pos 1) (pos 1)) (fraction (pos 7) (pos 2))) (record { low = at (pos 4) (pos 4); high = at (pos 6) (pos 6) }) ≡ false
unfolding does_extent_meet_box is_box_left_of_line along reduced common_divisor
an_extent_ends_before_the_box = refl

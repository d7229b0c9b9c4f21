-- Pieces, turns and turn depths of two routes that cross.
use Rattle.std.specs.Prelude.{◌≡◌, refl, List, [], ◌∷◌, codes, Some, pos, negsuc, map}
use Rattle.std.specs.List.{enumerate_from}
use Rattle.plane_spec.specs.Vectors.{point}
use Rattle.plane_spec.specs.Segments.{do_touch, cross_properly, is_on_segment}
use Rattle.plane_spec.specs.Fractions.{reduced, common_divisor, along, whole_point}
use Rattle.plan_spec.specs.Plan.{Plan, route, with_routes}
use Rattle.route_spec.specs.Routes.{Piece, cuts_of, pieces_of, neighbours_of, turn_of, costs_within, turn_depths_of}
use Rattle.plan_spec.proofs.Figures.{at, room}

an_eighth_of_a_circle_turns_by_four : turn_of (at 1 0) (at 1 1) ≡ 4
unfolding turn_of
an_eighth_of_a_circle_turns_by_four = refl

a_slight_bend_turns_by_one : turn_of (at 1 0) (at 5 1) ≡ 1
unfolding turn_of
a_slight_bend_turns_by_one = refl

a_quarter_to_the_right_turns_by_eight : turn_of (at 1 0) (point (pos 0) (negsuc 2)) ≡ 8
unfolding turn_of
a_quarter_to_the_right_turns_by_eight = refl

straight_back_turns_by_sixteen : turn_of (at 1 0) (point (negsuc 0) (pos 0)) ≡ 16
unfolding turn_of
straight_back_turns_by_sixteen = refl

straight_on_turns_by_nothing : turn_of (at 1 0) (at 2 0) ≡ 0
unfolding turn_of
straight_on_turns_by_nothing = refl

-- one along the axis, one across it
abbrev crossed : Plan
crossed = with_routes room (route (codes "A") (at 0 0) (at 10 0) ∷ route (codes "B") (point (pos 5) (negsuc 4)) (at 5 5) ∷ [])

abbrev four_pieces : List Piece
four_pieces =
    record { route = 0; from = whole_point (at 0 0); to = whole_point (at 5 0); direction = at 10 0 }
    ∷ record { route = 0; from = whole_point (at 5 0); to = whole_point (at 10 0); direction = at 10 0 }
    ∷ record { route = 1; from = whole_point (point (pos 5) (negsuc 4)); to = whole_point (at 5 0); direction = at 0 10 }
    ∷ record { route = 1; from = whole_point (at 5 0); to = whole_point (at 5 5); direction = at 0 10 }
    ∷ []

routes_are_cut_where_they_cross : pieces_of crossed ≡ four_pieces
unfolding pieces_of cuts_of do_touch cross_properly is_on_segment along reduced common_divisor
routes_are_cut_where_they_cross = refl

each_piece_at_a_crossing_has_three_neighbours : map (neighbours_of four_pieces) (enumerate_from 0 four_pieces) ≡ 3 ∷ 3 ∷ 3 ∷ 3 ∷ []
each_piece_at_a_crossing_has_three_neighbours = refl

a_crossing_is_left_by_a_quarter : turn_depths_of four_pieces 0 ≡ Some 0 ∷ Some 0 ∷ Some 8 ∷ Some 8 ∷ []
unfolding turn_depths_of costs_within turn_of
a_crossing_is_left_by_a_quarter = refl

-- a route that ends on the middle of another cuts that one alone, and a shared end cuts nothing
abbrev ending : Plan
ending = with_routes room (route (codes "A") (at 0 0) (at 10 0) ∷ route (codes "B") (at 4 0) (at 4 4) ∷ route (codes "C") (at 10 0) (at 10 5) ∷ [])

a_route_that_ends_on_another_cuts_it_alone :
    pieces_of ending
    ≡ record { route = 0; from = whole_point (at 0 0); to = whole_point (at 4 0); direction = at 10 0 }
    ∷ record { route = 0; from = whole_point (at 4 0); to = whole_point (at 10 0); direction = at 10 0 }
    ∷ record { route = 1; from = whole_point (at 4 0); to = whole_point (at 4 4); direction = at 0 4 }
    ∷ record { route = 2; from = whole_point (at 10 0); to = whole_point (at 10 5); direction = at 0 5 }
    ∷ []
unfolding pieces_of cuts_of do_touch cross_properly is_on_segment along reduced common_divisor
a_route_that_ends_on_another_cuts_it_alone = refl

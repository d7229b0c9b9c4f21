-- Convex obstacles at work: a box, and what it blocks.
use Rattle.std.specs.Prelude.{◌≡◌, refl, List, [], ◌∷◌, map, true, false, ◌&&◌}
use Rattle.plane_spec.specs.declared.Point.{Point}
use Rattle.plane_spec.specs.Segments.{is_on_segment, cross_properly, do_touch}
use Rattle.plane_spec.specs.Polygons.{edges_to, is_counterclockwise, may_be_edges, crosses_nowhere, is_simple}
use Rattle.plane_spec.specs.Cones.{is_in_cone}
use Rattle.sight_spec.specs.Scene.{oriented_walls, oriented_corners}
use Rattle.sight_spec.specs.Sight.{starts_into_wall, corner_stops, is_blocked}
use Rattle.plan_spec.proofs.Figures.{at, box}
use Rattle.plane_laws.specs.Enlarged.{enlarged, part_way}
use Rattle.polygon_laws.specs.Alone.{obstacle_alone}
use Rattle.sight_laws.specs.Convex.{is_convex, is_strictly_inside}

a_box_is_simple_and_convex : (is_simple (box 4 4 6 6) && is_convex (box 4 4 6 6)) ≡ true
unfolding oriented_walls is_counterclockwise edges_to crosses_nowhere may_be_edges is_on_segment cross_properly do_touch
a_box_is_simple_and_convex = refl

-- its points go round clockwise, and one lies straight between two others
abbrev other_way : List Point
other_way = at 4 4 ∷ at 4 5 ∷ at 4 6 ∷ at 6 6 ∷ at 6 4 ∷ []

so_is_one_the_other_way_round_with_a_straight_corner : (is_simple other_way && is_convex other_way) ≡ true
unfolding oriented_walls is_counterclockwise edges_to crosses_nowhere may_be_edges is_on_segment cross_properly do_touch
so_is_one_the_other_way_round_with_a_straight_corner = refl

an_angle_is_not_convex : is_convex (at 4 4 ∷ at 6 4 ∷ at 6 5 ∷ at 5 5 ∷ at 5 6 ∷ at 4 6 ∷ []) ≡ false
unfolding oriented_walls is_counterclockwise edges_to
an_angle_is_not_convex = refl

a_box_blocks_what_goes_through_two_corners : is_blocked (obstacle_alone (box 4 4 6 6)) (at 0 0) (at 8 8) ≡ true
unfolding is_blocked starts_into_wall corner_stops is_in_cone oriented_walls oriented_corners is_counterclockwise
    edges_to is_on_segment cross_properly
a_box_blocks_what_goes_through_two_corners = refl

-- five eighths of the way it is in the middle of the box
it_passes_through : is_strictly_inside (part_way 5 8 (at 0 0) (at 8 8)) (map (enlarged 8) (box 4 4 6 6)) ≡ true
unfolding oriented_walls is_counterclockwise edges_to
it_passes_through = refl

a_corner_of_the_box_is_not_inside :
    is_strictly_inside (part_way 1 2 (at 0 0) (at 8 8)) (map (enlarged 2) (box 4 4 6 6)) ≡ false
unfolding oriented_walls is_counterclockwise edges_to
a_corner_of_the_box_is_not_inside = refl

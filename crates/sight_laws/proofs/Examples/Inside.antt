-- What is strictly inside a convex polygon, on small figures: why it has to be simple, and a plan for which the law
-- of open points has something to say.
use Rattle.std.specs.Prelude.{◌≡◌, refl, List, ◌++◌, true, false}
use Rattle.std.proofs.Common.{arith}
use Rattle.plane_spec.specs.declared.Point.{Point}
use Rattle.plane_spec.specs.Segments.{is_on_segment, cross_properly, do_touch}
use Rattle.plane_spec.specs.Polygons.{edges_to, is_counterclockwise, passes_right, is_inside, may_be_edges}
use Rattle.plane_spec.specs.Polygons.{crosses_nowhere, is_simple}
use Rattle.plan_spec.specs.Accepted.{lies_within, are_obstacles_sound, are_screens_sound, are_routes_sound}
use Rattle.plan_spec.specs.Accepted.{is_within_limits, is_sound}
use Rattle.sight_spec.specs.Scene.{oriented_walls}
use Rattle.sight_spec.specs.Sight.{is_open}
use Rattle.plan_spec.proofs.Figures.{at, box, room_with, middle}
use Rattle.sight_laws.specs.Convex.{is_convex, is_strictly_inside, PassesThrough}

-- ---- a box

strictly_inside_a_box_is_inside : is_inside (at 5 5) (box 4 4 6 6) ≡ true
unfolding is_inside passes_right edges_to is_on_segment
strictly_inside_a_box_is_inside = refl

-- ---- a box that is gone round twice

abbrev box_twice : List Point
box_twice = box 4 4 6 6 ++ box 4 4 6 6

a_box_gone_round_twice_is_convex : is_convex box_twice ≡ true
unfolding oriented_walls is_counterclockwise edges_to
a_box_gone_round_twice_is_convex = refl

its_middle_is_strictly_inside : is_strictly_inside (at 5 5) box_twice ≡ true
unfolding oriented_walls is_counterclockwise edges_to
its_middle_is_strictly_inside = refl

its_middle_is_not_inside : is_inside (at 5 5) box_twice ≡ false
unfolding is_inside passes_right edges_to is_on_segment
its_middle_is_not_inside = refl

it_is_not_simple : is_simple box_twice ≡ false
unfolding crosses_nowhere may_be_edges do_touch cross_properly is_on_segment edges_to
it_is_not_simple = refl

-- ---- a room with a box in the middle

a_room_with_a_box_is_sound : is_sound (room_with middle) ≡ true
unfolding is_sound are_obstacles_sound are_screens_sound are_routes_sound is_within_limits lies_within
    crosses_nowhere may_be_edges edges_to is_inside passes_right do_touch cross_properly is_on_segment
a_room_with_a_box_is_sound = refl

its_left_wall_is_open : is_open (room_with middle) (at 0 5) ≡ true
unfolding is_open is_inside passes_right edges_to is_on_segment
its_left_wall_is_open = refl

the_way_across_it_passes_through_the_box : PassesThrough middle.points (at 0 5) (at 10 5)
unfolding oriented_walls is_counterclockwise edges_to
the_way_across_it_passes_through_the_box = (1, 2, omega arith, omega arith, refl)

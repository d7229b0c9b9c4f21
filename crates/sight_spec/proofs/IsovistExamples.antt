-- An isovist and axial lines.
use Rattle.std.specs.Prelude.{◌≡◌, refl, ℕ, [], ◌∷◌, Some, None, pos, negsuc, true, false}
use Rattle.plane_spec.specs.Vectors.{point, turns_before}
use Rattle.plane_spec.specs.Segments.{is_on_segment, cross_properly}
use Rattle.plane_spec.specs.Polygons.{edges_to, passes_right, is_inside, is_counterclockwise}
use Rattle.plane_spec.specs.Cones.{is_in_cone}
use Rattle.plane_spec.specs.Fractions.{RPoint, whole, common_divisor, reduced, along, whole_point}
use Rattle.plane_spec.specs.RPoints.{do_rsegments_touch}
use Rattle.sight_spec.specs.Scene.{oriented_walls, oriented_corners, scene_of}
use Rattle.sight_spec.specs.Sight.{starts_into_wall, corner_stops, is_blocked, are_in_sight, is_open}
use Rattle.sight_spec.specs.Stops.{blocker_hit, corner_hit, start_hit, stop_of, near_wall_of}
use Rattle.sight_spec.specs.Isovist.{corner_directions, wall_between, runs_of, triangle_of, isovist_in, isovist_of}
use Rattle.sight_spec.specs.Axial.{AxialLine, axial_lines, do_meet}
use Rattle.plan_spec.proofs.Figures.{at, room, room_with, middle}

-- ---- isovists

-- the walls of the room stand clockwise, in the order of its points: below, right, above, left
the_middle_of_the_room_sees_four_walls :
    isovist_of room (at 5 5)
    ≡ Some (record {
      triangles =
          record { from = whole_point (at 10 10); to = whole_point (at 0 10); doubled_area = whole (pos 50); wall = 2 }
          ∷ record { from = whole_point (at 0 10); to = whole_point (at 0 0); doubled_area = whole (pos 50); wall = 3 }
          ∷ record { from = whole_point (at 0 0); to = whole_point (at 10 0); doubled_area = whole (pos 50); wall = 0 }
          ∷ record { from = whole_point (at 10 0); to = whole_point (at 10 10); doubled_area = whole (pos 50); wall = 1 }
          ∷ [];
      floor = pos 200;
      ceil = pos 200;
    })
unfolding isovist_in corner_directions wall_between runs_of triangle_of turns_before is_open is_inside passes_right near_wall_of stop_of blocker_hit corner_hit start_hit is_in_cone oriented_walls oriented_corners is_counterclockwise edges_to is_on_segment along reduced common_divisor
the_middle_of_the_room_sees_four_walls = refl

below_a_point_on_the_wall_nothing_is_seen : wall_between (scene_of room) (at 5 0) (point (negsuc 4) (pos 0)) (at 5 0) ≡ None
unfolding wall_between near_wall_of stop_of blocker_hit corner_hit start_hit is_in_cone oriented_walls oriented_corners is_counterclockwise edges_to is_on_segment reduced common_divisor
below_a_point_on_the_wall_nothing_is_seen = refl

a_closed_point_has_no_isovist : isovist_of (room_with middle) (at 5 5) ≡ None
unfolding is_open is_inside passes_right edges_to is_on_segment
a_closed_point_has_no_isovist = refl

-- ---- axial lines

abbrev line : ℕ → ℕ → RPoint → RPoint → AxialLine
line first second from to = record { first = first; second = second; from = from; to = to }

an_empty_room_has_six_axial_lines :
    axial_lines (scene_of room)
    ≡ line 0 1 (whole_point (at 0 0)) (whole_point (at 10 0))
    ∷ line 0 2 (whole_point (at 0 0)) (whole_point (at 10 10))
    ∷ line 0 3 (whole_point (at 0 0)) (whole_point (at 0 10))
    ∷ line 1 2 (whole_point (at 10 0)) (whole_point (at 10 10))
    ∷ line 1 3 (whole_point (at 10 0)) (whole_point (at 0 10))
    ∷ line 2 3 (whole_point (at 10 10)) (whole_point (at 0 10))
    ∷ []
unfolding axial_lines are_in_sight is_blocked starts_into_wall corner_stops stop_of blocker_hit corner_hit start_hit is_in_cone oriented_walls oriented_corners is_counterclockwise edges_to is_on_segment cross_properly along reduced common_divisor
an_empty_room_has_six_axial_lines = refl

the_diagonals_of_a_room_meet : do_meet (line 0 2 (whole_point (at 0 0)) (whole_point (at 10 10))) (line 1 3 (whole_point (at 10 0)) (whole_point (at 0 10))) ≡ true
unfolding do_rsegments_touch
the_diagonals_of_a_room_meet = refl

opposite_walls_do_not_meet : do_meet (line 0 1 (whole_point (at 0 0)) (whole_point (at 10 0))) (line 2 3 (whole_point (at 10 10)) (whole_point (at 0 10))) ≡ false
unfolding do_rsegments_touch
opposite_walls_do_not_meet = refl

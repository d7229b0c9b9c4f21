-- A screen is removed from a room: which axial lines stay, and which are found afresh.
use Rattle.std.specs.Prelude.{◌≡◌, [], ◌∷◌, length, true, refl, codes}
use Rattle.plane_spec.specs.declared.PlanBox.{PlanBox}
use Rattle.plane_spec.specs.Boxes.{with_points, does_meet_box, does_extent_meet_box, is_box_left_of_line}
use Rattle.plane_spec.specs.Fractions.{along, reduced, common_divisor}
use Rattle.plane_spec.specs.Polygons.{edges_to, is_counterclockwise}
use Rattle.plane_spec.specs.Segments.{is_on_segment, cross_properly}
use Rattle.plane_spec.specs.Cones.{is_in_cone}
use Rattle.plan_spec.specs.declared.edit.Edit.TheVariants.{RemoveScreen}
use Rattle.plan_spec.specs.Plan.{Plan, screen, with_screens}
use Rattle.plan_spec.specs.Edits.{changed_boxes, plan_after_edit}
use Rattle.sight_spec.specs.Scene.{Scene, scene_of, oriented_walls, oriented_corners}
use Rattle.sight_spec.specs.Sight.{are_in_sight, is_blocked, starts_into_wall, corner_stops}
use Rattle.sight_spec.specs.Stops.{stop_of, blocker_hit, corner_hit, start_hit}
use Rattle.sight_spec.specs.Axial.{axial_lines}
use Rattle.sight_spec.specs.Dirty.{is_dirty_pair, is_dirty_line, is_dirty_corner, dirty_corners}
use Rattle.plan_spec.proofs.Figures.{at, room}
use Rattle.dirty_laws.specs.Scenes.{removal_of, ClosesUp}
use Rattle.list_laws.specs.Merged.{merged}
use Rattle.dirty_laws.proofs.Removal.{removal_is_without}
use Rattle.line_laws.specs.Lines.{kept_lines, fresh_lines, are_fresh_stopped, comes_before}
use Rattle.line_laws.proofs.Laws.{lines_after_removal}

-- the room with a screen across its middle
abbrev screened : Plan
screened = with_screens room (screen (codes "S") (at 4 5) (at 6 5) ∷ [])

-- as it is seen with the screen
abbrev before : Scene
before = scene_of screened

-- and without it
abbrev after : Scene
after = scene_of (plan_after_edit screened (RemoveScreen (codes "S")))

-- the box of the screen
abbrev area : PlanBox
area = record { low = at 4 5; high = at 6 5 }

the_screen_has_this_box : changed_boxes screened (RemoveScreen (codes "S")) ≡ removal_of area
unfolding changed_boxes with_points
the_screen_has_this_box = refl

-- all four corners of the room are dirty: each lies on a diagonal, which the screen crosses
every_corner_is_dirty : length (dirty_corners (removal_of area) before (axial_lines before) after) ≡ 4
unfolding axial_lines are_in_sight is_blocked starts_into_wall corner_stops stop_of blocker_hit corner_hit start_hit
    is_in_cone oriented_walls oriented_corners is_counterclockwise edges_to is_on_segment cross_properly along reduced
    common_divisor plan_after_edit is_dirty_corner is_dirty_pair is_dirty_line does_meet_box does_extent_meet_box is_box_left_of_line
every_corner_is_dirty = refl

-- what is asked afresh is stopped at both ends, by the walls of the room
what_is_fresh_is_stopped : are_fresh_stopped (removal_of area) before (axial_lines before) after ≡ true
unfolding axial_lines are_in_sight is_blocked starts_into_wall corner_stops stop_of blocker_hit corner_hit start_hit
    is_in_cone oriented_walls oriented_corners is_counterclockwise edges_to is_on_segment cross_properly along reduced
    common_divisor plan_after_edit is_dirty_corner is_dirty_pair is_dirty_line does_meet_box does_extent_meet_box is_box_left_of_line
what_is_fresh_is_stopped = refl

-- the four sides of the room stay: the screen's two ends, which came last, are gone
the_sides_stay : length (kept_lines (removal_of area) before (axial_lines before) 4 2) ≡ 4
unfolding axial_lines are_in_sight is_blocked starts_into_wall corner_stops stop_of blocker_hit corner_hit start_hit
    is_in_cone oriented_walls oriented_corners is_counterclockwise edges_to is_on_segment cross_properly along reduced
    common_divisor is_dirty_line does_extent_meet_box is_box_left_of_line
the_sides_stay = refl

-- the two diagonals are fresh
the_diagonals_are_fresh : length (fresh_lines (removal_of area) before (axial_lines before) after) ≡ 2
unfolding axial_lines are_in_sight is_blocked starts_into_wall corner_stops stop_of blocker_hit corner_hit start_hit
    is_in_cone oriented_walls oriented_corners is_counterclockwise edges_to is_on_segment cross_properly along reduced
    common_divisor plan_after_edit is_dirty_corner is_dirty_pair is_dirty_line does_meet_box does_extent_meet_box is_box_left_of_line
the_diagonals_are_fresh = refl

-- the screen's ends stand last, in its box
the_ends_close_up : ClosesUp area before after
unfolding plan_after_edit oriented_corners is_counterclockwise edges_to does_meet_box is_box_left_of_line
the_ends_close_up = record {
  front = at 0 0 ∷ at 10 0 ∷ at 10 10 ∷ at 0 10 ∷ [];
  gone = at 4 5 ∷ at 6 5 ∷ [];
  back = [];
  old_is = refl;
  new_is = refl;
  gone_in = refl;
}

-- so the lines without the screen are the sides and the diagonals
the_lines_without_the_screen : axial_lines after
    ≡ merged comes_before (kept_lines (removal_of area) before (axial_lines before) 4 2)
    (fresh_lines (removal_of area) before (axial_lines before) after)
unfolding the_ends_close_up
the_lines_without_the_screen =
    lines_after_removal area before after
    (removal_is_without screened (RemoveScreen (codes "S")) area the_screen_has_this_box) the_ends_close_up
    what_is_fresh_is_stopped

-- Whole outputs of desks.
use Rattle.std.specs.Prelude.{◌≡◌, refl, ℕ, List, [], ◌∷◌, ◌++◌, codes, Option, Some, None, pos, true}
use Rattle.std.specs.Fmt.{digits}
use Rattle.plane_spec.specs.declared.Point.{Point}
use Rattle.plane_spec.specs.Vectors.{point}
use Rattle.plane_spec.specs.Segments.{is_on_segment, cross_properly, do_touch}
use Rattle.plane_spec.specs.Polygons.{edges_to, passes_right, is_inside, may_be_edges, crosses_nowhere}
use Rattle.text_spec.specs.Lines.{without_return}
use Rattle.text_spec.specs.Words.{are_blank}
use Rattle.text_spec.specs.Numbers.{natural_of, number_of}
use Rattle.plan_spec.specs.Plan.{Plan, empty_plan, with_outer, with_item, items_of}
use Rattle.plan_spec.specs.Accepted.{lies_within, polygons_meet, segment_meets_polygon}
use Rattle.plan_spec.specs.Refusals.{why_not_polygon, why_not_polygon_in, why_not_obstacle}
use Rattle.plan_spec.specs.Edits.{why_not_edit, why_not_moved, plan_after_edit}
use Rattle.grammar_spec.specs.Arguments.{numbers_of, read_fields_by, numbers_of_points}
use Rattle.grammar_spec.specs.ScriptText.{script_word, line_of, shown, read_script_line}
use Rattle.report_spec.specs.Tables.{plan_table}
use Rattle.script_loop.specs.Steps.{has_refusal_by, replies_by, state_after}
use Rattle.plan_undo.specs.History.{edited, undone, redone}
use Rattle.plan_watch.specs.declared.note.Note.{Note}
use Rattle.desk_spec.specs.DeskText.{own_line, read_desk_line, read_line_of_desk}
use Rattle.desk_spec.specs.Desks.{desk_step, watch_table}
use Rattle.desk_spec.specs.DeskOutput.{desk_of, desk_replies, desk_after, desk_refuses, desk_output}

abbrev at : ℕ → ℕ → Point
at x y = point (pos x) (pos y)

-- a room of 10 by 10
abbrev room : Plan
room = with_outer empty_plan (at 0 0 ∷ at 10 0 ∷ at 10 10 ∷ at 0 10 ∷ [])

-- lines that each end in a newline
abbrev ended : List (List ℕ) → List ℕ
ended [] = []
ended (line ∷ lines) = line ++ 10 ∷ ended lines

-- two watchers, of which one keeps all notes and the other the last
abbrev rooms : List (Option ℕ)
rooms = None ∷ Some 1 ∷ []

abbrev lists : List (List Note)
lists = [] ∷ [] ∷ []

watchers_are_told_the_edits_that_are_made :
    desk_output (desk_of room rooms lists)
    (codes "addbox A 1 1 2 2" ∷ codes "addbox A 3 3 4 4" ∷ codes "move A 1 0" ∷ codes "show watch 0" ∷ codes "show watch 1" ∷ codes "show watch 2" ∷ [])
    ≡ ended (
    codes "ok 1" ∷ codes "refused 2 taken" ∷ codes "ok 3"
    ∷ codes "ok 4" ∷ codes "table watch" ∷ codes "1 add A" ∷ codes "3 move A" ∷ codes "end 2"
    ∷ codes "ok 5" ∷ codes "table watch" ∷ codes "3 move A" ∷ codes "end 1"
    ∷ codes "refused 6 nowatch"
    ∷ codes "table plan" ∷ codes "plan 1" ∷ codes "outer 0 0 10 0 10 10 0 10" ∷ codes "obstacle A 2 1 3 1 3 2 2 2" ∷ codes "end 3" ∷ [])
unfolding desk_output desk_replies desk_after replies_by state_after desk_step read_line_of_desk read_desk_line own_line watch_table edited undone redone plan_table items_of numbers_of_points digits without_return read_script_line are_blank script_word shown line_of read_fields_by numbers_of number_of natural_of why_not_edit why_not_moved why_not_obstacle why_not_polygon why_not_polygon_in crosses_nowhere may_be_edges edges_to lies_within polygons_meet segment_meets_polygon is_inside passes_right do_touch cross_properly is_on_segment plan_after_edit with_item
watchers_are_told_the_edits_that_are_made = refl

what_is_undone_is_as_before_and_can_be_redone :
    desk_output (desk_of room [] [])
    (codes "addbox A 1 1 2 2" ∷ codes "addbox B 3 3 4 4" ∷ codes "remove A" ∷ codes "undo" ∷ codes "show plan" ∷ codes "undo" ∷ codes "undo" ∷ codes "undo" ∷ codes "redo" ∷ [])
    ≡ ended (
    codes "ok 1" ∷ codes "ok 2" ∷ codes "ok 3" ∷ codes "ok 4" ∷ codes "ok 5"
    ∷ codes "table plan" ∷ codes "plan 1" ∷ codes "outer 0 0 10 0 10 10 0 10" ∷ codes "obstacle A 1 1 2 1 2 2 1 2" ∷ codes "obstacle B 3 3 4 3 4 4 3 4" ∷ codes "end 4"
    ∷ codes "ok 6" ∷ codes "ok 7" ∷ codes "refused 8 nothing" ∷ codes "ok 9"
    ∷ codes "table plan" ∷ codes "plan 1" ∷ codes "outer 0 0 10 0 10 10 0 10" ∷ codes "obstacle A 1 1 2 1 2 2 1 2" ∷ codes "end 3" ∷ [])
unfolding desk_output desk_replies desk_after replies_by state_after desk_step read_line_of_desk read_desk_line own_line watch_table edited undone redone plan_table items_of numbers_of_points digits without_return read_script_line are_blank script_word shown line_of read_fields_by numbers_of number_of natural_of why_not_edit why_not_moved why_not_obstacle why_not_polygon why_not_polygon_in crosses_nowhere may_be_edges edges_to lies_within polygons_meet segment_meets_polygon is_inside passes_right do_touch cross_properly is_on_segment plan_after_edit with_item
what_is_undone_is_as_before_and_can_be_redone = refl

a_watcher_that_goes_is_told_no_more_and_those_after_it_close_up :
    desk_output (desk_of room rooms lists)
    (codes "addbox A 1 1 2 2" ∷ codes "undo" ∷ codes "unwatch 0" ∷ codes "show watch 0" ∷ codes "unwatch 1" ∷ [])
    ≡ ended (
    codes "ok 1" ∷ codes "ok 2" ∷ codes "ok 3"
    ∷ codes "ok 4" ∷ codes "table watch" ∷ codes "2 undo A" ∷ codes "end 1"
    ∷ codes "refused 5 nowatch"
    ∷ codes "table plan" ∷ codes "plan 1" ∷ codes "outer 0 0 10 0 10 10 0 10" ∷ codes "end 2" ∷ [])
unfolding desk_output desk_replies desk_after replies_by state_after desk_step read_line_of_desk read_desk_line own_line watch_table edited undone redone plan_table items_of numbers_of_points digits without_return read_script_line are_blank script_word shown line_of read_fields_by numbers_of number_of natural_of why_not_edit why_not_moved why_not_obstacle why_not_polygon why_not_polygon_in crosses_nowhere may_be_edges edges_to lies_within polygons_meet segment_meets_polygon is_inside passes_right do_touch cross_properly is_on_segment plan_after_edit with_item
a_watcher_that_goes_is_told_no_more_and_those_after_it_close_up = refl

a_step_that_cannot_be_made_is_told_by_the_status : desk_refuses (desk_of room [] []) (codes "undo" ∷ []) ≡ true
unfolding desk_refuses has_refusal_by desk_step read_line_of_desk read_desk_line own_line undone without_return read_fields_by numbers_of
a_step_that_cannot_be_made_is_told_by_the_status = refl

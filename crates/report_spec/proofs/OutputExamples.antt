-- Whole outputs, and the trial plan.
use Rattle.std.specs.Prelude.{◌≡◌, refl, ℕ, List, [], ◌∷◌, ◌++◌, codes, Some, None, pos, true, false}
use Rattle.std.specs.Fmt.{digits}
use Rattle.plane_spec.specs.declared.Point.{Point}
use Rattle.plane_spec.specs.Vectors.{point}
use Rattle.plane_spec.specs.Segments.{is_on_segment, cross_properly, do_touch}
use Rattle.plane_spec.specs.Polygons.{edges_to, passes_right, is_inside, is_counterclockwise, may_be_edges, crosses_nowhere}
use Rattle.plane_spec.specs.Cones.{is_in_cone}
use Rattle.plane_spec.specs.Fractions.{fraction, common_divisor, reduced}
use Rattle.text_spec.specs.Lines.{without_return}
use Rattle.text_spec.specs.Words.{are_blank}
use Rattle.text_spec.specs.Numbers.{natural_of, number_of}
use Rattle.plan_spec.specs.declared.item.Item.TheVariants.{Obstacle}
use Rattle.plan_spec.specs.Plan.{Plan, empty_plan, with_outer, with_grid, with_item, items_of}
use Rattle.plan_spec.specs.Accepted.{lies_within, polygons_meet, segment_meets_polygon}
use Rattle.plan_spec.specs.Refusals.{why_not_polygon, why_not_polygon_in, why_not_obstacle}
use Rattle.plan_spec.specs.Edits.{why_not_edit, plan_after_edit}
use Rattle.sight_spec.specs.Scene.{oriented_walls, oriented_corners}
use Rattle.sight_spec.specs.Sight.{starts_into_wall, corner_stops, is_blocked, are_in_sight, is_open}
use Rattle.plan_spec.specs.Grid.{grid_points}
use Rattle.sight_spec.specs.Visibility.{visibility_edges}
use Rattle.graph_spec.specs.Graphs.{depth_of, measures_of}
use Rattle.options_spec.specs.declared.options.Form.TheVariants.{Text, Csv}
use Rattle.grammar_spec.specs.Arguments.{numbers_of, read_fields_by, numbers_of_points}
use Rattle.grammar_spec.specs.ScriptText.{script_word, line_of, shown, read_script_line, read_line_of_script}
use Rattle.report_spec.specs.Records.{fraction_field, records_bytes}
use Rattle.report_spec.specs.Tables.{points_table, plan_table}
use Rattle.report_spec.specs.Replies.{answer, step, replies, plan_after, has_refusal}
use Rattle.report_spec.specs.Trial.{trial_box, root_above}
use Rattle.options_spec.specs.declared.options.Mode.TheVariants.{Vga, Check}
use Rattle.options_spec.specs.declared.options.Job.TheVariants.{Analyse, Trial}
use Rattle.options_spec.specs.Options.{options_of}
use Rattle.report_spec.specs.Output.{mode_records, reply_bytes, output_of, output_is_refused, trial_output, output_by, is_refused_by}

abbrev at : ℕ → ℕ → Point
at x y = point (pos x) (pos y)

-- a room of 10 by 10
abbrev room : Plan
room = with_outer empty_plan (at 0 0 ∷ at 10 0 ∷ at 10 10 ∷ at 0 10 ∷ [])

-- with a grid point at each of its corners
abbrev room_with_grid : Plan
room_with_grid = with_grid room (Some (record { step = pos 10; x0 = pos 0; y0 = pos 0; cols = pos 2; rows = pos 2 }))

-- lines that each end in a newline
abbrev ended : List (List ℕ) → List ℕ
ended [] = []
ended (line ∷ lines) = line ++ 10 ∷ ended lines

a_script_is_answered_line_by_line :
    output_of Check Text room (codes "addbox A 1 1 3 3" ∷ codes "# a comment" ∷ codes "addbox B 3 3 5 5" ∷ codes "paint" ∷ (codes "show plan" ++ 13 ∷ []) ∷ codes "remove A" ∷ [])
    ≡ ended (
    codes "ok 1" ∷ codes "refused 3 touch A" ∷ codes "refused 4 kind" ∷ codes "ok 5"
    ∷ codes "table plan" ∷ codes "plan 1" ∷ codes "outer 0 0 10 0 10 10 0 10" ∷ codes "obstacle A 1 1 3 1 3 3 1 3" ∷ codes "end 3"
    ∷ codes "ok 6"
    ∷ codes "table plan" ∷ codes "plan 1" ∷ codes "outer 0 0 10 0 10 10 0 10" ∷ codes "end 2" ∷ [])
unfolding output_of reply_bytes replies plan_after mode_records plan_table items_of numbers_of_points digits step answer read_line_of_script without_return read_script_line are_blank script_word shown line_of read_fields_by numbers_of number_of natural_of why_not_edit why_not_obstacle why_not_polygon why_not_polygon_in crosses_nowhere may_be_edges edges_to lies_within polygons_meet segment_meets_polygon is_inside passes_right do_touch cross_properly is_on_segment plan_after_edit with_item
a_script_is_answered_line_by_line = refl

a_refused_line_is_told_by_the_status : output_is_refused Check room (codes "paint" ∷ []) ≡ true
unfolding output_is_refused has_refusal step read_line_of_script without_return read_script_line are_blank script_word
a_refused_line_is_told_by_the_status = refl

the_tables_of_an_empty_room :
    output_of Vga Text room_with_grid []
    ≡ ended (
    codes "table edges" ∷ codes "0 1" ∷ codes "0 2" ∷ codes "0 3" ∷ codes "1 2" ∷ codes "1 3" ∷ codes "2 3" ∷ codes "end 6"
    ∷ codes "table points" ∷ codes "0 0 0 3 4 3 1/1 0/1" ∷ codes "1 10 0 3 4 3 1/1 0/1" ∷ codes "2 0 10 3 4 3 1/1 0/1" ∷ codes "3 10 10 3 4 3 1/1 0/1" ∷ codes "end 4" ∷ [])
unfolding output_of reply_bytes replies plan_after mode_records points_table measures_of depth_of reduced common_divisor digits visibility_edges grid_points is_open is_inside passes_right are_in_sight is_blocked starts_into_wall corner_stops is_in_cone oriented_walls oriented_corners is_counterclockwise edges_to is_on_segment cross_properly
the_tables_of_an_empty_room = refl

csv_joins_by_commas : records_bytes Csv ((codes "ok" ∷ codes "1" ∷ []) ∷ []) ≡ codes "ok,1" ++ 10 ∷ []
csv_joins_by_commas = refl

a_whole_fraction_has_its_denominator : fraction_field (fraction (pos 0) (pos 1)) ≡ codes "0/1"
unfolding digits
a_whole_fraction_has_its_denominator = refl

the_second_box_of_a_trial_of_two : trial_box (root_above 2) 1 ≡ Obstacle (codes "b1") (at 127 39 ∷ at 167 39 ∷ at 167 79 ∷ at 127 79 ∷ [])
unfolding digits
the_second_box_of_a_trial_of_two = refl

the_fourth_box_of_a_trial_of_four : trial_box (root_above 4) 3 ≡ Obstacle (codes "b3") (at 120 115 ∷ at 160 115 ∷ at 160 155 ∷ at 120 155 ∷ [])
unfolding digits
the_fourth_box_of_a_trial_of_four = refl

a_mode_and_a_file_are_options :
    options_of (record { mode = Some (codes "VGA"); file = Some (codes "p"); workers = None; format = Some (codes "csv"); number = None })
    ≡ Some (record { job = Analyse Vga (codes "p"); workers = 1; form = Csv })
unfolding options_of
a_mode_and_a_file_are_options = refl

a_trial_of_251_is_refused :
    options_of (record { mode = Some (codes "TRIAL"); file = None; workers = None; format = None; number = Some (codes "251") }) ≡ None
unfolding options_of natural_of
a_trial_of_251_is_refused = refl

no_workers_are_refused :
    options_of (record { mode = Some (codes "VGA"); file = Some (codes "p"); workers = Some (codes "0"); format = None; number = None }) ≡ None
unfolding options_of natural_of
no_workers_are_refused = refl

without_a_plan_nothing_is_printed :
    output_by (record { job = Analyse Vga (codes "p"); workers = 1; form = Text }) None (codes "paint" ∷ []) ≡ []
unfolding output_by
without_a_plan_nothing_is_printed = refl

a_trial_is_printed_whatever_stands_in_a_script :
    output_by (record { job = Trial 7; workers = 4; form = Csv }) None (codes "paint" ∷ []) ≡ trial_output Csv 7
unfolding output_by
a_trial_is_printed_whatever_stands_in_a_script = refl

a_trial_has_no_refused_reply :
    is_refused_by (record { job = Trial 7; workers = 4; form = Csv }) None (codes "paint" ∷ []) ≡ false
unfolding is_refused_by
a_trial_has_no_refused_reply = refl

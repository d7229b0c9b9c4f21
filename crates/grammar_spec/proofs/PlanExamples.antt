-- The grammar of plans on small texts.
use Rattle.std.specs.Prelude.{◌≡◌, refl, ℕ, List, [], ◌∷◌, ◌++◌, codes, Ok, Err, pos, negsuc}
use Rattle.std.specs.Fmt.{digits}
use Rattle.plane_spec.specs.Vectors.{point}
use Rattle.text_spec.specs.Lines.{without_empty_last, without_return}
use Rattle.text_spec.specs.Words.{are_blank}
use Rattle.text_spec.specs.Numbers.{natural_of, number_of}
use Rattle.plan_spec.specs.declared.item.Item.TheVariants.{Grid, Outer, Obstacle, Screen, Route}
use Rattle.grammar_spec.specs.declared.text_why.TextWhy.TheVariants.{Kind, Words, Name}
use Rattle.grammar_spec.specs.Arguments.{numbers_of, read_fields_by, points_of, numbers_of_points}
use Rattle.grammar_spec.specs.PlanText.{plan_word, item_of, read_plan_line, read_plan_lines, read_plan_text, plan_text_of, grid_of}

-- lines joined by newlines, the last without one
abbrev line_by_line : List ℕ → List ℕ → List ℕ
line_by_line first second = first ++ 10 ∷ second

comments_blank_lines_and_returns_are_passed_over :
    read_plan_text (line_by_line (codes "# a flat") (line_by_line (codes "plan 1" ++ 13 ∷ []) (line_by_line (codes "outerbox 0 -1 10 0011") (line_by_line [] (codes "route R-1 1 1 2 2")))))
    ≡ Ok ((3, Outer (point (pos 0) (negsuc 0) ∷ point (pos 10) (negsuc 0) ∷ point (pos 10) (pos 11) ∷ point (pos 0) (pos 11) ∷ []))
    ∷ (5, Route (codes "R-1") (point (pos 1) (pos 1)) (point (pos 2) (pos 2))) ∷ [])
unfolding read_plan_text read_plan_lines read_plan_line are_blank item_of plan_word points_of without_empty_last without_return number_of natural_of numbers_of read_fields_by
comments_blank_lines_and_returns_are_passed_over = refl

the_number_of_words_is_tested_before_numbers : read_plan_text (line_by_line (codes "plan 1") (codes "box A 1 1 x")) ≡ Err (2, Words)
unfolding read_plan_text read_plan_lines read_plan_line are_blank item_of plan_word points_of without_empty_last without_return number_of natural_of numbers_of read_fields_by
the_number_of_words_is_tested_before_numbers = refl

the_leftmost_wrong_word_is_told : read_plan_text (line_by_line (codes "plan 1") (codes "box A! 1 1 x 1")) ≡ Err (2, Name)
unfolding read_plan_text read_plan_lines read_plan_line are_blank item_of plan_word points_of without_empty_last without_return number_of natural_of numbers_of read_fields_by
the_leftmost_wrong_word_is_told = refl

an_odd_number_of_numbers_is_a_wrong_number_of_words : read_plan_text (line_by_line (codes "plan 1") (codes "outer 1 2 3")) ≡ Err (2, Words)
unfolding read_plan_text read_plan_lines read_plan_line are_blank item_of plan_word points_of without_empty_last without_return number_of natural_of numbers_of read_fields_by
an_odd_number_of_numbers_is_a_wrong_number_of_words = refl

a_word_of_scripts_begins_no_line_of_a_plan : read_plan_text (line_by_line (codes "plan 1") (codes "add A 1 1 x 1")) ≡ Err (2, Kind)
unfolding read_plan_text read_plan_lines read_plan_line are_blank item_of plan_word points_of without_empty_last without_return number_of natural_of numbers_of read_fields_by
a_word_of_scripts_begins_no_line_of_a_plan = refl

no_bytes_are_no_plan : read_plan_text [] ≡ Err (1, Kind)
unfolding read_plan_text read_plan_lines without_empty_last
no_bytes_are_no_plan = refl

a_second_header_is_no_line_of_a_plan : read_plan_text (line_by_line (codes "plan 1") (codes "plan 1")) ≡ Err (2, Kind)
unfolding read_plan_text read_plan_lines read_plan_line are_blank item_of plan_word points_of without_empty_last without_return number_of natural_of numbers_of read_fields_by
a_second_header_is_no_line_of_a_plan = refl

a_header_has_no_zeros : read_plan_text (codes "plan 01") ≡ Err (1, Kind)
unfolding read_plan_text read_plan_lines read_plan_line are_blank item_of plan_word points_of without_empty_last without_return number_of natural_of numbers_of read_fields_by
a_header_has_no_zeros = refl

a_screen_needs_version_2 : read_plan_text (line_by_line (codes "plan 1") (codes "screen")) ≡ Err (2, Kind)
unfolding read_plan_text read_plan_lines read_plan_line are_blank item_of plan_word points_of without_empty_last without_return number_of natural_of numbers_of read_fields_by
a_screen_needs_version_2 = refl

a_screen_stands_in_version_2 : read_plan_text (line_by_line (codes "plan 2") (codes "screen S 5 2 5 8")) ≡ Ok ((2, Screen (codes "S") (point (pos 5) (pos 2)) (point (pos 5) (pos 8))) ∷ [])
unfolding read_plan_text read_plan_lines read_plan_line are_blank item_of plan_word points_of without_empty_last without_return number_of natural_of numbers_of read_fields_by
a_screen_stands_in_version_2 = refl

the_text_has_a_line_for_each_item :
    plan_text_of (Outer (point (pos 0) (negsuc 4) ∷ []) ∷ Grid (grid_of (pos 1 ∷ pos 2 ∷ pos 3 ∷ pos 4 ∷ pos 50 ∷ [])) ∷ Obstacle (codes "A") (point (pos 7) (pos 8) ∷ []) ∷ [])
    ≡ line_by_line (codes "plan 1") (line_by_line (codes "outer 0 -5") (line_by_line (codes "grid 1 2 3 4 50") (codes "obstacle A 7 8" ++ 10 ∷ [])))
unfolding plan_text_of numbers_of_points digits
the_text_has_a_line_for_each_item = refl

the_text_of_a_plan_with_a_screen_is_version_2 : plan_text_of (Screen (codes "S") (point (pos 1) (pos 2)) (point (pos 3) (pos 4)) ∷ []) ≡ line_by_line (codes "plan 2") (codes "screen S 1 2 3 4" ++ 10 ∷ [])
unfolding plan_text_of numbers_of_points digits
the_text_of_a_plan_with_a_screen_is_version_2 = refl

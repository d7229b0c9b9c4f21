-- The grammar of scripts on single lines.
use Rattle.std.specs.Prelude.{◌≡◌, refl, [], ◌∷◌, ◌++◌, codes, Ok, Err, pos}
use Rattle.text_spec.specs.Lines.{without_return}
use Rattle.text_spec.specs.Words.{are_blank}
use Rattle.text_spec.specs.Numbers.{natural_of, number_of}
use Rattle.plan_spec.specs.declared.edit.Edit.TheVariants.{Move}
use Rattle.grammar_spec.specs.declared.text_why.TextWhy.TheVariants.{Kind, Words, Name, Number}
use Rattle.grammar_spec.specs.declared.script_line.Query.TheVariants.{Edges}
use Rattle.grammar_spec.specs.declared.script_line.Line.TheVariants.{Blank, Edit as OfEdit, Query as OfQuery}
use Rattle.grammar_spec.specs.Arguments.{numbers_of, read_fields_by, points_of}
use Rattle.grammar_spec.specs.ScriptText.{script_word, shown, line_of, read_script_line, read_line_of_script}

a_move_has_a_name_and_two_numbers : read_script_line (codes "move A 3 -0") ≡ Ok (OfEdit (Move (codes "A") (pos 3) (pos 0)))
unfolding read_script_line are_blank script_word line_of read_fields_by numbers_of number_of natural_of points_of
a_move_has_a_name_and_two_numbers = refl

a_return_before_the_newline_is_dropped : read_line_of_script (codes "show edges" ++ 13 ∷ []) ≡ Ok (OfQuery Edges)
unfolding read_line_of_script without_return read_script_line are_blank shown
a_return_before_the_newline_is_dropped = refl

a_table_that_is_none_is_told_after_the_number_of_words : read_script_line (codes "show edge now") ≡ Err Words
unfolding read_script_line are_blank shown
a_table_that_is_none_is_told_after_the_number_of_words = refl

a_table_that_is_none_is_a_wrong_kind : read_script_line (codes "show edge") ≡ Err Kind
unfolding read_script_line are_blank shown
a_table_that_is_none_is_a_wrong_kind = refl

an_odd_number_of_numbers_is_told_before_the_name : read_script_line (codes "add A! x") ≡ Err Words
unfolding read_script_line are_blank script_word line_of read_fields_by numbers_of number_of natural_of points_of
an_odd_number_of_numbers_is_told_before_the_name = refl

a_wrong_name_is_told : read_script_line (codes "add P! 2 2 4 2 4 4") ≡ Err Name
unfolding read_script_line are_blank script_word line_of read_fields_by numbers_of number_of natural_of points_of
a_wrong_name_is_told = refl

a_wrong_number_is_told : read_script_line (codes "add P 2 2 4 x") ≡ Err Number
unfolding read_script_line are_blank script_word line_of read_fields_by numbers_of number_of natural_of points_of
a_wrong_number_is_told = refl

a_word_that_is_none_is_a_wrong_kind : read_script_line (codes "paint P") ≡ Err Kind
unfolding read_script_line are_blank script_word line_of read_fields_by numbers_of number_of natural_of points_of
a_word_that_is_none_is_a_wrong_kind = refl

a_comment_is_blank : read_script_line (codes "  #add") ≡ Ok Blank
unfolding read_script_line are_blank
a_comment_is_blank = refl

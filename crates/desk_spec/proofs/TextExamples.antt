-- The grammar of a desk on single lines.
use Rattle.std.specs.Prelude.{◌≡◌, refl, [], ◌∷◌, ◌++◌, codes, Ok, Err, pos, neg_ℤ}
use Rattle.text_spec.specs.Lines.{without_return}
use Rattle.text_spec.specs.Words.{are_blank}
use Rattle.text_spec.specs.Numbers.{natural_of, number_of}
use Rattle.plan_spec.specs.declared.edit.Edit.TheVariants.{Remove}
use Rattle.grammar_spec.specs.declared.text_why.TextWhy.TheVariants.{Kind, Words, Number}
use Rattle.grammar_spec.specs.Arguments.{numbers_of, read_fields_by}
use Rattle.grammar_spec.specs.ScriptText.{script_word, shown, line_of, read_script_line}
use Rattle.desk_spec.specs.declared.line.DeskLine.TheVariants.{Blank, Edit, Undo, ShowPlan, ShowWatch, Unwatch}
use Rattle.desk_spec.specs.DeskText.{own_line, read_desk_line, read_line_of_desk}

a_watcher_has_a_number : read_desk_line (codes "show watch 0") ≡ Ok (ShowWatch (pos 0))
unfolding read_desk_line own_line read_fields_by numbers_of number_of natural_of read_script_line are_blank
a_watcher_has_a_number = refl

the_number_may_be_negative : read_desk_line (codes "unwatch -1") ≡ Ok (Unwatch (neg_ℤ (pos 1)))
unfolding read_desk_line own_line read_fields_by numbers_of number_of natural_of
the_number_may_be_negative = refl

how_many_words_there_are_is_told_before_the_number : read_desk_line (codes "show watch x 1") ≡ Err Words
unfolding read_desk_line own_line read_fields_by
how_many_words_there_are_is_told_before_the_number = refl

a_word_is_no_number : read_desk_line (codes "unwatch A") ≡ Err Number
unfolding read_desk_line own_line read_fields_by numbers_of number_of natural_of
a_word_is_no_number = refl

undo_stands_alone : read_desk_line (codes "undo 2") ≡ Err Words
unfolding read_desk_line own_line read_fields_by
undo_stands_alone = refl

a_return_before_the_newline_is_dropped : read_line_of_desk (codes "undo" ++ 13 ∷ []) ≡ Ok Undo
unfolding read_line_of_desk without_return read_desk_line own_line read_fields_by numbers_of
a_return_before_the_newline_is_dropped = refl

an_edit_is_any_script's : read_desk_line (codes "remove A") ≡ Ok (Edit (Remove (codes "A")))
unfolding read_desk_line own_line read_script_line are_blank script_word line_of read_fields_by numbers_of
an_edit_is_any_script's = refl

the_plan_may_be_asked_for : read_desk_line (codes "show plan") ≡ Ok ShowPlan
unfolding read_desk_line own_line read_script_line are_blank shown
the_plan_may_be_asked_for = refl

no_other_question_is_answered : read_desk_line (codes "depth 0 0") ≡ Err Kind
unfolding read_desk_line own_line read_script_line are_blank script_word line_of read_fields_by numbers_of number_of natural_of
no_other_question_is_answered = refl

a_question_outside_the_grammar_is_told_for_that : read_desk_line (codes "depth 0") ≡ Err Words
unfolding read_desk_line own_line read_script_line are_blank script_word read_fields_by
a_question_outside_the_grammar_is_told_for_that = refl

a_comment_is_blank : read_desk_line (codes "# undo") ≡ Ok Blank
unfolding read_desk_line own_line read_script_line are_blank
a_comment_is_blank = refl

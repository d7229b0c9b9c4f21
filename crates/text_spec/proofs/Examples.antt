-- The definitions on small texts.
use Rattle.std.specs.Prelude.{◌≡◌, refl, [], ◌∷◌, ◌++◌, codes, Some, None, pos, negsuc, true, false}
use Rattle.text_spec.specs.Lines.{lines_of, without_empty_last, without_return}
use Rattle.text_spec.specs.Words.{words_of, are_blank}
use Rattle.text_spec.specs.Numbers.{natural_of, number_of}
use Rattle.text_spec.specs.Names.{is_name}

no_bytes_have_no_lines : lines_of [] ≡ []
unfolding without_empty_last
no_bytes_have_no_lines = refl

a_last_newline_begins_no_line : lines_of (codes "a" ++ 10 ∷ codes "b" ++ 10 ∷ []) ≡ codes "a" ∷ codes "b" ∷ []
unfolding without_empty_last
a_last_newline_begins_no_line = refl

a_last_line_needs_no_newline : lines_of (codes "a" ++ 10 ∷ 10 ∷ codes "b") ≡ codes "a" ∷ [] ∷ codes "b" ∷ []
unfolding without_empty_last
a_last_line_needs_no_newline = refl

one_return_is_dropped : without_return (codes "a" ++ 13 ∷ 13 ∷ []) ≡ codes "a" ++ 13 ∷ []
unfolding without_return
one_return_is_dropped = refl

a_return_inside_stays : without_return (13 ∷ codes "a") ≡ 13 ∷ codes "a"
unfolding without_return
a_return_inside_stays = refl

blanks_cut_words : words_of (32 ∷ codes "ab" ++ 9 ∷ 32 ∷ codes "c" ++ 32 ∷ []) ≡ codes "ab" ∷ codes "c" ∷ []
blanks_cut_words = refl

a_return_is_part_of_a_word : words_of (codes "a" ++ 13 ∷ codes "b") ≡ (codes "a" ++ 13 ∷ codes "b") ∷ []
a_return_is_part_of_a_word = refl

a_comment_is_blank : are_blank (words_of (codes " #a b")) ≡ true
unfolding are_blank
a_comment_is_blank = refl

a_sign_inside_a_word_is_no_comment : are_blank (words_of (codes "a# b")) ≡ false
unfolding are_blank
a_sign_inside_a_word_is_no_comment = refl

zeros_may_lead : number_of (codes "-0012") ≡ Some (negsuc 11)
unfolding number_of natural_of
zeros_may_lead = refl

minus_zero_is_zero : number_of (codes "-0") ≡ Some (pos 0)
unfolding number_of natural_of
minus_zero_is_zero = refl

nine_digits_are_a_number : number_of (codes "999999999") ≡ Some (pos 999999999)
unfolding number_of natural_of
nine_digits_are_a_number = refl

ten_digits_are_no_number : number_of (codes "0000000001") ≡ None
unfolding number_of natural_of
ten_digits_are_no_number = refl

a_sign_alone_is_no_number : number_of (codes "-") ≡ None
unfolding number_of natural_of
a_sign_alone_is_no_number = refl

a_plus_is_no_sign : number_of (codes "+1") ≡ None
unfolding number_of natural_of
a_plus_is_no_sign = refl

a_name_has_letters_digits_and_two_signs : is_name (codes "Wing-2_b") ≡ true
a_name_has_letters_digits_and_two_signs = refl

no_bytes_are_no_name : is_name [] ≡ false
no_bytes_are_no_name = refl

a_name_has_at_most_32_bytes : is_name (codes "abcdefghabcdefghabcdefghabcdefgh") ≡ true
a_name_has_at_most_32_bytes = refl

a_name_of_33_bytes_is_none : is_name (codes "abcdefghabcdefghabcdefghabcdefghi") ≡ false
a_name_of_33_bytes_is_none = refl

-- Words of the command, the texts that they give for its options, and what these stand for.
use Rattle.std.specs.Prelude.{◌≡◌, refl, ℕ, List, [], ◌∷◌, codes, Option, Some, None, map}
use Rattle.clap.proofs.OnLiterals.{clap_on_literals}
use Rattle.text_spec.specs.Words.{words_of}
use Rattle.text_spec.specs.Numbers.{natural_of}
use Rattle.options_spec.specs.declared.options.Form.TheVariants.{Text, Csv}
use Rattle.options_spec.specs.declared.options.Mode.TheVariants.{Vga}
use Rattle.options_spec.specs.declared.options.Given.{Given}
use Rattle.options_spec.specs.declared.options.Job.TheVariants.{Analyse, Trial}
use Rattle.options_spec.specs.declared.options.Options.{Options}
use Rattle.options_spec.specs.Options.{options_of}
use Rattle.words_spec.specs.CommandWords.{given_in, options_in}

-- the texts that the words of a line give, and the options that they stand for
abbrev given : List ℕ → Option Given
given line = given_in (words_of line)

abbrev options : List ℕ → Option Options
options line = options_in (words_of line)

abbrev mode_and_file : List ℕ → List ℕ → Option Given
mode_and_file mode file = Some (record { mode = Some mode; file = Some file; workers = None; format = None; number = None })

abbrev vga_of_p : Option Given
vga_of_p = mode_and_file (codes "VGA") (codes "p")

-- ---- words that are taken

an_option_is_spelled_in_five_ways :
    map given (codes "-m VGA -f p" ∷ codes "-mVGA -fp" ∷ codes "-m=VGA -f=p" ∷ codes "--mode VGA --file p" ∷ codes "--mode=VGA --file=p" ∷ [])
    ≡ vga_of_p ∷ vga_of_p ∷ vga_of_p ∷ vga_of_p ∷ vga_of_p ∷ []
unfolding given_in clap_on_literals
an_option_is_spelled_in_five_ways = refl

options_stand_in_any_order_and_spelling : map given (codes "-f p -m VGA" ∷ codes "-f p --mode=VGA" ∷ codes "-m=VGA --file p" ∷ []) ≡ vga_of_p ∷ vga_of_p ∷ vga_of_p ∷ []
unfolding given_in clap_on_literals
options_stand_in_any_order_and_spelling = refl

three_options_have_no_letter :
    given (codes "--workers 4 -m VGA -f p --format=csv")
    ≡ Some (record { mode = Some (codes "VGA"); file = Some (codes "p"); workers = Some (codes "4"); format = Some (codes "csv"); number = None })
unfolding given_in clap_on_literals
three_options_have_no_letter = refl

a_number_is_given :
    given (codes "-m TRIAL --number 7") ≡ Some (record { mode = Some (codes "TRIAL"); file = None; workers = None; format = None; number = Some (codes "7") })
unfolding given_in clap_on_literals
a_number_is_given = refl

no_words_give_no_texts : given_in [] ≡ Some (record { mode = None; file = None; workers = None; format = None; number = None })
unfolding given_in clap_on_literals
no_words_give_no_texts = refl

one_equals_sign_is_taken_off : map given (codes "-m==VGA -f p" ∷ codes "--mode==VGA -f p" ∷ []) ≡ mode_and_file (codes "=VGA") (codes "p") ∷ mode_and_file (codes "=VGA") (codes "p") ∷ []
unfolding given_in clap_on_literals
one_equals_sign_is_taken_off = refl

a_lone_hyphen_is_a_text : given (codes "-f - -m VGA") ≡ mode_and_file (codes "VGA") (codes "-")
unfolding given_in clap_on_literals
a_lone_hyphen_is_a_text = refl

a_text_joined_to_its_option_may_begin_with_a_hyphen :
    map given (codes "-f-x -m VGA" ∷ codes "--file=-x -m VGA" ∷ []) ≡ mode_and_file (codes "VGA") (codes "-x") ∷ mode_and_file (codes "VGA") (codes "-x") ∷ []
unfolding given_in clap_on_literals
a_text_joined_to_its_option_may_begin_with_a_hyphen = refl

an_empty_word_is_a_text : given_in (codes "-m" ∷ codes "VGA" ∷ codes "-f" ∷ [] ∷ []) ≡ mode_and_file (codes "VGA") []
unfolding given_in clap_on_literals
an_empty_word_is_a_text = refl

nothing_after_an_equals_sign_is_a_text : map given (codes "-m VGA -f=" ∷ codes "-m VGA --file=" ∷ []) ≡ mode_and_file (codes "VGA") [] ∷ mode_and_file (codes "VGA") [] ∷ []
unfolding given_in clap_on_literals
nothing_after_an_equals_sign_is_a_text = refl

two_hyphens_may_stand_last : given (codes "-m VGA -f p --") ≡ vga_of_p
unfolding given_in clap_on_literals
two_hyphens_may_stand_last = refl

-- ---- words that are refused

a_word_that_begins_with_a_hyphen_is_no_text : map given (codes "-m VGA -f -x" ∷ codes "-m VGA -f --" ∷ codes "-f -m VGA" ∷ []) ≡ None ∷ None ∷ None ∷ []
unfolding given_in clap_on_literals
a_word_that_begins_with_a_hyphen_is_no_text = refl

an_option_stands_once_in_whatever_spelling :
    map given (codes "-f a -f b" ∷ codes "-f a -f a" ∷ codes "-m VGA --mode VGA" ∷ codes "-f p -m VGA -m CHECK" ∷ codes "--workers 4 --workers=4" ∷ []) ≡ None ∷ None ∷ None ∷ None ∷ None ∷ []
unfolding given_in clap_on_literals
an_option_stands_once_in_whatever_spelling = refl

a_long_name_is_whole_after_two_hyphens : map given (codes "--mod VGA" ∷ codes "--m VGA" ∷ codes "-mode VGA -f p" ∷ []) ≡ None ∷ None ∷ None ∷ []
unfolding given_in clap_on_literals
a_long_name_is_whole_after_two_hyphens = refl

no_word_stands_after_two_hyphens : map given (codes "-m VGA -f p -- x" ∷ codes "-m VGA -- -f p" ∷ codes "-- --" ∷ []) ≡ None ∷ None ∷ None ∷ []
unfolding given_in clap_on_literals
no_word_stands_after_two_hyphens = refl

a_text_has_its_option : map given (codes "VGA" ∷ codes "-m VGA CHECK" ∷ codes "depthmap -m VGA -f p" ∷ codes "-" ∷ []) ≡ None ∷ None ∷ None ∷ None ∷ []
unfolding given_in clap_on_literals
a_text_has_its_option = refl

there_is_no_other_option : map given (codes "-x" ∷ codes "-w 4" ∷ codes "--help" ∷ codes "-h" ∷ codes "--version" ∷ codes "-V" ∷ codes "help" ∷ []) ≡ None ∷ None ∷ None ∷ None ∷ None ∷ None ∷ None ∷ []
unfolding given_in clap_on_literals
there_is_no_other_option = refl

an_option_has_a_text : map given (codes "-m" ∷ codes "--mode" ∷ codes "-f p -m" ∷ codes "-m VGA --file" ∷ []) ≡ None ∷ None ∷ None ∷ None ∷ []
unfolding given_in clap_on_literals
an_option_has_a_text = refl

-- ---- options

words_give_options :
    options (codes "-m VGA -f plan.txt --workers 4 --format csv") ≡ Some (record { job = Analyse Vga (codes "plan.txt"); workers = 4; form = Csv })
unfolding options_in given_in clap_on_literals options_of natural_of
words_give_options = refl

a_trial_is_one_worker_and_text_where_nothing_is_said : options (codes "-m TRIAL --number 7") ≡ Some (record { job = Trial 7; workers = 1; form = Text })
unfolding options_in given_in clap_on_literals options_of natural_of
a_trial_is_one_worker_and_text_where_nothing_is_said = refl

texts_that_stand_for_nothing_give_no_options : map options ([] ∷ codes "-m CHECK" ∷ codes "-m=vga -f p" ∷ codes "-m==VGA -f p" ∷ codes "-m TRIAL -f p --number 7" ∷ []) ≡ None ∷ None ∷ None ∷ None ∷ None ∷ []
unfolding options_in given_in clap_on_literals options_of natural_of
texts_that_stand_for_nothing_give_no_options = refl

words_that_are_refused_give_no_options : map options (codes "-m VGA -m VGA -f p" ∷ codes "-m VGA -f p x" ∷ codes "-m VGA -f p --help" ∷ []) ≡ None ∷ None ∷ None ∷ []
unfolding options_in given_in clap_on_literals
words_that_are_refused_give_no_options = refl

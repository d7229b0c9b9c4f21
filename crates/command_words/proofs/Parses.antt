-- What the answer of a parse of the command tells of the texts that the words give.
use Rattle.std.proofs.Common.{◌≡◌, ◌∙◌, ap, sym, true, false, cond, List, [], Some, None}
use Rattle.std.proofs.lemmas.Bool.{false_from_ne_true}
use Rattle.clap.specs.Words.{App, Row, Text, fault_of, is_simple, is_simple_and_free, matches_of, takes}
use Rattle.words_spec.specs.CommandWords.{command, given_by, given_in}
use Rattle.command_words.proofs.NoFault.{no_fault_takes}

-- clap states its matches and its faults of such a command
pub is_simple_command : (a : App) → a ≡ command → is_simple a ≡ true
is_simple_command a is = ap is_simple is

pub is_free_command : (a : App) → a ≡ command → is_simple_and_free a ≡ true
is_free_command a is = ap is_simple_and_free is

-- without a fault its matches are the texts that the words give
pub matches_are_given : (a : App) (words : List Text) (rows : List Row) → a ≡ command → fault_of a words ≡ [] → rows ≡ matches_of a words → Some (given_by rows) ≡ given_in words
unfolding given_in
matches_are_given a words rows is none same =
    let taken : takes command words ≡ true = no_fault_takes words (ap (λ (x : App). fault_of x words) (sym is) ∙ none) in
    ap (λ (rows : List Row). Some (given_by rows)) (same ∙ ap (λ (x : App). matches_of x words) is)
    ∙ ap (λ b. cond b (Some (given_by (matches_of command words))) None) (sym taken)

-- words that it doesn't take give none
pub refused_give_none : (a : App) (words : List Text) → a ≡ command → (takes a words ≡ true → ⊥) → None ≡ given_in words
unfolding given_in
refused_give_none a words is refused =
    let not_taken : takes command words ≡ false = false_from_ne_true (takes command words) (λ taken. refused (ap (λ (x : App). takes x words) is ∙ taken)) in
    ap (λ b. cond b (Some (given_by (matches_of command words))) None) (sym not_taken)

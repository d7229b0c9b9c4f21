use Rattle.std.proofs.Common.{◌≡◌, ◌∙◌, refl, Some, List, [], ◌∷◌, Bool, true, false, cond, slice_get, find, option_and_then}
use Rattle.std.specs.Str.{bytes_eq}
use Rattle.clap.specs.Words.{Row, Text, first_of, found_of, rows_of}
use Rattle.clap.proofs.WalkLemmas.{first_value-rows}
use Rattle.words_spec.specs.CommandWords.{first_text, text_given}
use Rattle.command_words.proofs.arguments.text_in.Goals as goal

-- the getters of `clap` and the definition take the same text
first_is_given : (rows : List Row) (name : Text) → first_of name rows ≡ text_given rows name
first_is_given [] name = refl
first_is_given (row ∷ rows) name = go (bytes_eq row.id name) (first_is_given rows name)
  where
    first_is : (texts : List Text) → slice_get texts 0 ≡ first_text texts
    first_is [] = refl
    first_is (text ∷ texts) = refl

    go : (b : Bool) → first_of name rows ≡ text_given rows name
        → option_and_then (λ (r : Row). slice_get r.values 0) (cond b (Some row) (find (λ r. bytes_eq r.id name) rows)) ≡ cond b (first_text row.values) (text_given rows name)
    go true rest = first_is row.values
    go false rest = rest

pub returns : goal.returns
returns c =
    let found = found_of c.args.matches.now in
    let name = c.args.name.now in
    record { text = c.given.ensures ∙ (c.get_str.ensures ∙ (first_value-rows found name ∙ first_is_given (rows_of found) name)) }

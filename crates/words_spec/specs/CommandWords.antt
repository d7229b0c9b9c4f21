-- The options that the words of the command give.
use Rattle.std.specs.Prelude.{ℕ, true, List, [], ◌∷◌, Option, Some, None, codes, bytes_eq, if◌then◌else◌, option_and_then}
use Rattle.clap.specs.Words.{App, Shape, Row, Rule, new_app, new_rule, with_rule, matches_of, takes}
use Rattle.clap.specs.declared.builder.action.ArgAction.TheVariants.{Set}
use Rattle.options_spec.specs.declared.options.Given.{Given}
use Rattle.options_spec.specs.declared.options.Options.{Options}
use Rattle.options_spec.specs.Options.{options_of}

-- an option that takes one text and may stand once: by its long name, and by one letter where it has one
abbrev pub option_rule : List ℕ → Option ℕ → Rule
option_rule name letter = record (new_rule name) { long = Some name; short = letter; action = Some Set }

-- no program name among the words, no flags for help or version
abbrev pub plain_shape : Shape → Shape
plain_shape s = record s { no_binary_name = true; disable_help_flag = true; disable_version_flag = true }

-- the command with that shape, whatever else it has
abbrev pub plain_app : App → App
plain_app a = record a { top = plain_shape a.top }

-- the command with its five options
abbrev pub command : App
command =
    with_rule
    (with_rule
    (with_rule
    (with_rule
    (with_rule (plain_app (new_app (codes "depthmap"))) (option_rule (codes "mode") (Some 109)))
    (option_rule (codes "file") (Some 102)))
    (option_rule (codes "workers") None))
    (option_rule (codes "format") None))
    (option_rule (codes "number") None)

-- the first of some texts
abbrev pub first_text : List (List ℕ) → Option (List ℕ)
first_text [] = None
first_text (text ∷ texts) = Some text

-- the text that was given for the option of a name, where one was
abbrev pub text_given : List Row → List ℕ → Option (List ℕ)
text_given [] name = None
text_given (row ∷ rows) name = if bytes_eq row.id name then first_text row.values else text_given rows name

-- the texts of the five options
abbrev pub given_by : List Row → Given
given_by rows =
    record {
      mode = text_given rows (codes "mode");
      file = text_given rows (codes "file");
      workers = text_given rows (codes "workers");
      format = text_given rows (codes "format");
      number = text_given rows (codes "number");
    }

-- the texts that the words give for the options, where the command takes the words
unfoldable pub given_in : List (List ℕ) → Option Given
given_in words = if takes command words then Some (given_by (matches_of command words)) else None

-- the options, where the command takes the words and their texts stand for some
unfoldable pub options_in : List (List ℕ) → Option Options
options_in words = option_and_then options_of (given_in words)

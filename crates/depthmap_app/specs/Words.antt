-- What the words of the command ask for.
use Rattle.std.specs.Prelude.{ℕ, List, map, Option, Some, None, option_and_then, string_bytes, String}
use Rattle.std.specs.Global.{Global}
use Rattle.options_spec.specs.declared.options.Job.{Job}
use Rattle.options_spec.specs.declared.options.Job.TheVariants.{Analyse, Trial}
use Rattle.options_spec.specs.declared.options.Options.{Options}
use Rattle.words_spec.specs.CommandWords.{options_in}

-- the options that the words give, or none
abbrev pub options_given : List (String Global) → Option Options
options_given words = options_in (map string_bytes words)

-- the name of the file that is to be analysed, or none
abbrev pub file_of_job : Job → Option (List ℕ)
file_of_job (Analyse mode file) = Some file
file_of_job (Trial boxes) = None

-- the name of the file that the options ask for, or none
abbrev pub file_of : Option Options → Option (List ℕ)
file_of None = None
file_of (Some options) = file_of_job options.job

-- the bytes of the file that the options ask for, where they are known
abbrev pub known_file : Option Options → (List ℕ → Option (List ℕ)) → Option (List ℕ)
known_file options holds = option_and_then holds (file_of options)

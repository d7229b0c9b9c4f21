-- What the words of the command ask for.
use Rattle.std.specs.Prelude.{ℕ, List, map, Option, Some, None, option_and_then, string_bytes, String}
use Rattle.std.specs.Global.{Global}
use Rattle.walk_words.specs.WalkWords.{walk_options_of}
use Rattle.walk_words.specs.declared.reading.WalkOptions.{WalkOptions}

-- what the words ask for, or none
abbrev pub options_given : List (String Global) → Option WalkOptions
options_given words = walk_options_of (map string_bytes words)

-- the name of the file that is asked for, or none
abbrev pub file_of : Option WalkOptions → Option (List ℕ)
file_of None = None
file_of (Some options) = Some options.file

-- the bytes of the file that is asked for, where they are known
abbrev pub known_file : Option WalkOptions → (List ℕ → Option (List ℕ)) → Option (List ℕ)
known_file options holds = option_and_then holds (file_of options)

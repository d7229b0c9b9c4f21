-- A cause as a word and what it is about.
use Rattle.std.specs.Prelude.{ℕ, List, [], ◌∷◌, Option, Some, None}

-- a word, and a second where there is one
abbrev pub words_in : List ℕ → Option (List ℕ) → List (List ℕ)
words_in word None = word ∷ []
words_in word (Some detail) = word ∷ detail ∷ []

-- Lines cut into words.
use Rattle.std.specs.Prelude.{ℕ, List, [], ◌∷◌, Bool, true, false, ◌||◌, ◌==◌, filter}
use Rattle.std.specs.List.{slice_split}

-- a space or a tab
abbrev pub is_space : ℕ → Bool
is_space b = (b == 32) || (b == 9)

-- at least one byte
abbrev pub is_some_bytes : List ℕ → Bool
is_some_bytes [] = false
is_some_bytes (b ∷ bytes) = true

-- the longest stretches of bytes without a space or a tab, in order
abbrev pub words_of : List ℕ → List (List ℕ)
words_of line = filter is_some_bytes (slice_split is_space line)

-- the word begins with `#`
abbrev pub begins_comment : List ℕ → Bool
begins_comment [] = false
begins_comment (b ∷ bytes) = b == 35

-- there are no words, or the first of them begins a comment
unfoldable pub are_blank : List (List ℕ) → Bool
are_blank [] = true
are_blank (word ∷ words) = begins_comment word

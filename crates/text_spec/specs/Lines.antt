-- Bytes cut into lines.
use Rattle.std.specs.Prelude.{ℕ, List, [], ◌∷◌, Bool, ◌==◌, nat_lt, length, if◌then◌else◌}
use Rattle.std.specs.List.{slice_split}
use Rattle.text_spec.specs.declared.lines.TheConstants.{MAX_LINE_BYTES}

-- a byte that ends a line
abbrev pub is_newline : ℕ → Bool
is_newline b = b == 10

-- the parts, but for an empty one that stands last
unfoldable pub without_empty_last : List (List ℕ) → List (List ℕ)
without_empty_last [] = []
without_empty_last (part ∷ []) = if length part == 0 then [] else part ∷ []
without_empty_last (part ∷ next ∷ parts) = part ∷ without_empty_last (next ∷ parts)

-- each line as it stands before its newline or before the end of the bytes; what ends right after a newline has no
-- further line
abbrev pub lines_of : List ℕ → List (List ℕ)
lines_of bytes = without_empty_last (slice_split is_newline bytes)

-- all parts but the last
unfoldable pub without_last : List (List ℕ) → List (List ℕ)
without_last [] = []
without_last (part ∷ []) = []
without_last (part ∷ next ∷ parts) = part ∷ without_last (next ∷ parts)

-- the lines whose newline is among the bytes
abbrev pub whole_lines_of : List ℕ → List (List ℕ)
whole_lines_of bytes = without_last (slice_split is_newline bytes)

-- the last part, or nothing where it is empty
unfoldable pub last_unless_empty : List (List ℕ) → List (List ℕ)
last_unless_empty [] = []
last_unless_empty (part ∷ []) = if length part == 0 then [] else part ∷ []
last_unless_empty (part ∷ next ∷ parts) = last_unless_empty (next ∷ parts)

-- the line that no newline ends: what stands after the last newline, if anything does
abbrev pub unended_line_of : List ℕ → List (List ℕ)
unended_line_of bytes = last_unless_empty (slice_split is_newline bytes)

-- the line without one carriage return that stands last in it
unfoldable pub without_return : List ℕ → List ℕ
without_return [] = []
without_return (b ∷ []) = if b == 13 then [] else b ∷ []
without_return (b ∷ c ∷ bytes) = b ∷ without_return (c ∷ bytes)

-- more than `MAX_LINE_BYTES` bytes stand before the line's newline, a carriage return counted
abbrev pub is_long : List ℕ → Bool
is_long line = nat_lt MAX_LINE_BYTES (length line)

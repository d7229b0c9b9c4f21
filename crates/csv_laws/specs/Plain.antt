-- Fields and records in csv form that need no quotes.
use Rattle.std.specs.Prelude.{ℕ, ◌==◌, nat_lt, Bool, true, false, not, ◌&&◌, ◌||◌, List, [], ◌∷◌, length}
use Rattle.std.specs.List.{list_all}

-- no comma, no quote, no newline and no carriage return
abbrev pub is_plain_byte : ℕ → Bool
is_plain_byte b = not (((b == 44) || (b == 34)) || ((b == 10) || (b == 13)))

-- all bytes of the field are plain
abbrev pub is_plain : List ℕ → Bool
is_plain field = list_all is_plain_byte field

-- the record shows more than one empty field
abbrev pub is_visible : List (List ℕ) → Bool
is_visible [] = false
is_visible (field ∷ []) = nat_lt 0 (length field)
is_visible (field ∷ next ∷ rest) = true

-- a visible record of plain fields
abbrev pub is_plain_record : List (List ℕ) → Bool
is_plain_record fields = is_visible fields && list_all is_plain fields

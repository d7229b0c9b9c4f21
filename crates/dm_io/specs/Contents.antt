-- Files in memory: names, and contents beside them.
use Rattle.std.specs.Prelude.{ℕ, List, [], Option, Some, None, slice_get, position, string_bytes, option_map, option_and_then, unwrap_or, String}
use Rattle.std.specs.Global.{Global, Vec}
use Rattle.std.specs.Str.{bytes_eq}

-- the place of the first file of a name, if there is one
abbrev pub place_of : List (String Global) → List ℕ → Option ℕ
place_of names name = position (λ n. bytes_eq (string_bytes n) name) names

-- the content at a place, if there is one
abbrev pub content_at : List (Vec ℕ) → ℕ → Option (List ℕ)
content_at contents place = option_map (λ c. c.items) (slice_get contents place)

-- the content of the first file of a name, if there is one
abbrev pub content_of : List (String Global) → List (Vec ℕ) → List ℕ → Option (List ℕ)
content_of names contents name = option_and_then (content_at contents) (place_of names name)

-- the content of the file that was opened, or no bytes where none was
abbrev pub opened_content : List (Vec ℕ) → Option ℕ → List ℕ
opened_content contents None = []
opened_content contents (Some place) = unwrap_or (content_at contents place) []

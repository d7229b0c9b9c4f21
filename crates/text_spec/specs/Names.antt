-- Words that are names.
use Rattle.std.specs.Prelude.{ℕ, List, Bool, ◌&&◌, ◌||◌, ◌==◌, nat_le, length, IsTrue}
use Rattle.std.specs.List.{list_all}
use Rattle.text_spec.specs.declared.name.TheConstants.{MAX_NAME_BYTES}

-- a letter, a digit, `_` or `-`
abbrev pub is_allowed : ℕ → Bool
is_allowed b =
    ((nat_le 65 b && nat_le b 90) || ((nat_le 97 b && nat_le b 122) || (nat_le 48 b && nat_le b 57)))
    || ((b == 95) || (b == 45))

-- 1 to `MAX_NAME_BYTES` letters, digits, `_` and `-`
abbrev pub is_name : List ℕ → Bool
is_name bytes = nat_le 1 (length bytes) && (nat_le (length bytes) MAX_NAME_BYTES && list_all is_allowed bytes)

-- the same as a fact that the type of names keeps
abbrev pub IsName : List ℕ → Type 0
IsName bytes = IsTrue (is_name bytes)

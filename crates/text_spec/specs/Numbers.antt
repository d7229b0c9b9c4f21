-- Words that are numbers.
use Rattle.std.specs.Prelude.{ℕ, List, [], ◌∷◌, ◌&&◌, ◌==◌, nat_le, length, ℤ, pos, neg_ℤ, if◌then◌else◌}
use Rattle.std.specs.Prelude.{Option, Some, None, option_map}
use Rattle.std.specs.List.{list_all}
use Rattle.std.specs.Char.{is_ascii_digit}
use Rattle.std.specs.Str.Parse.{digits_value}
use Rattle.text_spec.specs.declared.numbers.TheConstants.{MAX_DIGITS}

-- 1 to `MAX_DIGITS` digits, which may begin with zeros, as a number
unfoldable pub natural_of : List ℕ → Option ℕ
natural_of word =
    if nat_le 1 (length word) && (nat_le (length word) MAX_DIGITS && list_all is_ascii_digit word)
    then Some (digits_value 10 word)
    else None

-- 1 to `MAX_DIGITS` digits, with `-` before them or without, as a number
unfoldable pub number_of : List ℕ → Option ℤ
number_of [] = None
number_of (b ∷ bytes) =
    if b == 45 then option_map (λ n. neg_ℤ (pos n)) (natural_of bytes) else option_map (λ n. pos n) (natural_of (b ∷ bytes))

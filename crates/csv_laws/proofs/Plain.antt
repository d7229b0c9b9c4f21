-- Names and numbers are plain.
use Rattle.std.proofs.Common.{◌≡◌, ℕ, suc, ◌<◌, ◌≤◌, ◌^◌, nat_le, true, ◌&&◌, List, [], ◌∷◌, ◌++◌, length, ℤ, pos, negsuc, unsigned_abs, decimal, refl, ap, ◌∙◌, arith}
use Rattle.std.specs.Prelude.{codes}
use Rattle.std.specs.Fmt.{signed_decimal}
use Rattle.std.specs.List.{list_all}
use Rattle.std.specs.Char.{digit_value}
use Rattle.std.specs.Str.Parse.{AllDigits}
use Rattle.std.proofs.lemmas.Bool.{and_parts}
use Rattle.std.proofs.lemmas.Fmt.{decimal_is_IsNumeral_wide}
use Rattle.std.proofs.lemmas.List.Folds.{list_all-append}
use Rattle.std.proofs.lemmas.Str.Parse.{digit_from_value}
use Rattle.plane_spec.specs.Fractions.{Fraction}
use Rattle.text_spec.specs.Names.{is_allowed, is_name}
use Rattle.report_spec.specs.Records.{fraction_field}
use Rattle.csv_laws.specs.Plain.{is_plain_byte, is_plain}

-- ---- names

allowed_plain : (b : ℕ) → is_allowed b ≡ true → is_plain_byte b ≡ true
allowed_plain b h = grind arith

all_allowed : (bytes : List ℕ) → list_all is_allowed bytes ≡ true → is_plain bytes ≡ true
all_allowed [] h = refl
all_allowed (b ∷ bytes) h =
    let parts = and_parts (is_allowed b) (list_all is_allowed bytes) h in
    rw (allowed_plain b parts.0, all_allowed bytes parts.1) refl

pub name_plain : (bytes : List ℕ) → is_name bytes ≡ true → is_plain bytes ≡ true
name_plain bytes h =
    let sized = and_parts (nat_le 1 (length bytes)) (nat_le (length bytes) 32 && list_all is_allowed bytes) h in
    all_allowed bytes (and_parts (nat_le (length bytes) 32) (list_all is_allowed bytes) sized.1).1

-- ---- numbers

digit_plain : (b : ℕ) → digit_value b < 10 → is_plain_byte b ≡ true
digit_plain b h = let place = digit_from_value b h in in_range b place.0 place.1
  where
    in_range : (b : ℕ) → 48 ≤ b → b ≤ 57 → is_plain_byte b ≡ true
    in_range b low high = grind arith

digits_plain : (digits : List ℕ) → AllDigits 10 digits → is_plain digits ≡ true
digits_plain [] h = refl
digits_plain (d ∷ digits) h = rw (digit_plain d h.0, digits_plain digits h.1) refl

pub number_plain : (n : ℕ) → n < 10 ^ 64 → is_plain (decimal n) ≡ true
number_plain n h = digits_plain (decimal n) (decimal_is_IsNumeral_wide n h).0.1

pub signed_plain : (z : ℤ) → unsigned_abs z < 10 ^ 64 → is_plain (signed_decimal z) ≡ true
signed_plain (pos n) h = number_plain n h
signed_plain (negsuc n) h = rw (number_plain (suc n) h) refl

pub fraction_plain : (f : Fraction) → unsigned_abs f.num < 10 ^ 64 → unsigned_abs f.den < 10 ^ 64
    → is_plain (fraction_field f) ≡ true
fraction_plain f num den =
    list_all-append is_plain_byte (signed_decimal f.num ++ codes "/") (signed_decimal f.den)
    ∙ ap (λ t. t && is_plain (signed_decimal f.den))
    (list_all-append is_plain_byte (signed_decimal f.num) (codes "/"))
    ∙ rw (signed_plain f.num num, signed_plain f.den den) refl

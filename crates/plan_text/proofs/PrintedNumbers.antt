-- A number that is printed is read again.
use Rattle.std.proofs.Common.{◌≡◌, ℕ, suc, ◌^◌, ◌<◌, ◌≤◌, nat_abs, Bool, true, false, ◌&&◌, ◌==◌, nat_le, List, [], ◌∷◌, length, map, All, Some, ℤ, pos, negsuc, refl, ap, arith, decimal}
use Rattle.std.specs.List.{list_all}
use Rattle.std.specs.Char.{is_ascii_digit}
use Rattle.std.specs.Str.{all_ascii_digits}
use Rattle.std.specs.Str.Parse.{digits_value}
use Rattle.std.specs.Fmt.{signed_decimal}
use Rattle.std.proofs.lemmas.Str.Parse.{IsNumeralModel, numerals_by_value, tells_all_ascii_digits}
use Rattle.std.proofs.lemmas.Fmt.{digits_decimal, digits_value-decimal, length-decimal-le, decimal_nonempty}
use Rattle.std.proofs.lemmas.List.Elements.{All-head, All-tail}
use Rattle.text_spec.specs.Numbers.{number_of, natural_of}
use Rattle.grammar_spec.specs.Arguments.{numbers_of}

-- a number of at most nine digits
abbrev pub IsNumber : ℤ → Type 0
IsNumber z = nat_abs z < 10 ^ 9

pub own : IsNumeralModel (λ digits. all_ascii_digits digits ≡ true) (digits_value 10)
own = numerals_by_value (λ digits. all_ascii_digits digits ≡ true) tells_all_ascii_digits

pub digits_same : (digits : List ℕ) → list_all is_ascii_digit digits ≡ all_ascii_digits digits
digits_same [] = refl
digits_same (d ∷ digits) = ap (λ t. is_ascii_digit d && t) (digits_same digits)

all_hold : (l : ℕ) (a : Bool) → 1 ≤ l → l ≤ 9 → a ≡ true → (nat_le 1 l && (nat_le l 9 && a)) ≡ true
all_hold l a some few e = grind arith

natural_of_digits : (digits : List ℕ) (n : ℕ) → 1 ≤ length digits → length digits ≤ 9 → all_ascii_digits digits ≡ true → digits_value 10 digits ≡ n → natural_of digits ≡ Some n
unfolding natural_of
natural_of_digits digits n some few e value = rw (digits_same digits, all_hold (length digits) (all_ascii_digits digits) some few e, value) refl

natural_of_decimal : (n : ℕ) → n < 10 ^ 9 → natural_of (decimal n) ≡ Some n
natural_of_decimal n h =
    let small : n < 2 ^ 64 = omega arith in
    natural_of_digits (decimal n) n (omega (arith, decimal_nonempty n small)) (length-decimal-le 9 n (omega arith) h small) (digits_decimal own n small) (digits_value-decimal own n small)

number_of_digits : (digits : List ℕ) (n : ℕ) → all_ascii_digits digits ≡ true → 0 < length digits → natural_of digits ≡ Some n → number_of digits ≡ Some (pos n)
unfolding number_of
number_of_digits [] n e some is = absurd (omega arith)
number_of_digits (b ∷ digits) n e some is =
    let no_minus : (b == 45) ≡ false = grind arith in
    rw (no_minus, is) refl

number_of_printed : (z : ℤ) → IsNumber z → number_of (signed_decimal z) ≡ Some z
unfolding number_of
number_of_printed (pos n) h =
    let small : n < 2 ^ 64 = omega arith in
    number_of_digits (decimal n) n (digits_decimal own n small) (decimal_nonempty n small) (natural_of_decimal n (omega arith))
number_of_printed (negsuc n) h = rw (natural_of_decimal (suc n) (omega arith)) refl

pub numbers_of_printed : (numbers : List ℤ) → All IsNumber numbers → numbers_of (map signed_decimal numbers) ≡ Some numbers
unfolding numbers_of
numbers_of_printed [] h = refl
numbers_of_printed (z ∷ numbers) h =
    rw (number_of_printed z (All-head IsNumber z numbers h), numbers_of_printed numbers (All-tail IsNumber z numbers h)) refl

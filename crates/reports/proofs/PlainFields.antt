-- Numbers of any size, fractions of them, and the keywords of plans need no quotes.
use Rattle.std.proofs.Common.{◌≡◌, ◌≤◌, ◌+◌, ◌/◌, ◌%◌, ℕ, zero, suc, ◌==◌, nat_lt, true, false, ◌&&◌, List, [], ◌∷◌, ◌++◌, ℤ, pos, negsuc, decimal, refl, ap, ◌∙◌, arith}
use Rattle.std.specs.Prelude.{codes}
use Rattle.std.specs.Fmt.{digit_glyph, digits, digits_onto, signed_decimal}
use Rattle.std.proofs.lemmas.Bool.{cond_both}
use Rattle.plane_spec.specs.Fractions.{Fraction}
use Rattle.grammar_spec.specs.declared.plan_line.PlanWord.{PlanWord}
use Rattle.grammar_spec.specs.declared.plan_line.PlanWord.TheVariants.{
  Grid,
  Outer,
  Outerbox,
  Obstacle,
  Box,
  Screen,
  Route,
}
use Rattle.grammar_spec.specs.PlanText.{keyword}
use Rattle.report_spec.specs.Records.{fraction_field}
use Rattle.csv_laws.specs.Plain.{is_plain_byte, is_plain}
use Rattle.std.proofs.lemmas.List.Folds.{list_all-append}

high_plain : (b : ℕ) → 48 ≤ b → is_plain_byte b ≡ true
high_plain b high = grind arith

glyph_plain : (d : ℕ) → is_plain_byte (digit_glyph false d) ≡ true
glyph_plain d =
    cond_both (nat_lt d 10) (48 + d) (87 + d) (λ b. is_plain_byte b ≡ true)
    (λ t. high_plain (48 + d) (omega arith)) (λ t. high_plain (87 + d) (omega arith))

onto_plain : (k n : ℕ) (last : List ℕ) → is_plain last ≡ true → is_plain (digits_onto k 10 false n last) ≡ true
onto_plain zero n last h = h
onto_plain (suc k) n last h =
    let one : is_plain (digit_glyph false (n % 10) ∷ last) ≡ true = rw (glyph_plain (n % 10), h) refl in
    cond_both (n / 10 == 0) (digit_glyph false (n % 10) ∷ last)
    (digits_onto k 10 false (n / 10) (digit_glyph false (n % 10) ∷ last)) (λ t. is_plain t ≡ true)
    (λ e. one) (λ e. onto_plain k (n / 10) (digit_glyph false (n % 10) ∷ last) one)

pub number_plain : (n : ℕ) → is_plain (decimal n) ≡ true
unfolding digits
number_plain n = onto_plain 64 n [] refl

pub signed_plain : (z : ℤ) → is_plain (signed_decimal z) ≡ true
signed_plain (pos n) = number_plain n
signed_plain (negsuc n) = rw (number_plain (suc n)) refl

pub fraction_plain : (f : Fraction) → is_plain (fraction_field f) ≡ true
fraction_plain f =
    list_all-append is_plain_byte (signed_decimal f.num ++ codes "/") (signed_decimal f.den)
    ∙ ap (λ t. t && is_plain (signed_decimal f.den))
    (list_all-append is_plain_byte (signed_decimal f.num) (codes "/"))
    ∙ rw (signed_plain f.num, signed_plain f.den) refl

pub keyword_plain : (word : PlanWord) → is_plain (keyword word) ≡ true
keyword_plain Grid = refl
keyword_plain Outer = refl
keyword_plain Outerbox = refl
keyword_plain Obstacle = refl
keyword_plain Box = refl
keyword_plain Screen = refl
keyword_plain Route = refl

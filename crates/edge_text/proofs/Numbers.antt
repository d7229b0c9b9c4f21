-- The digits of numbers in a list, and the bytes of a row of two numbers.
use Rattle.std.proofs.Common.{◌≡◌, ◌<◌, ◌≤◌, ◌^◌, ℕ, List, [], ◌∷◌, ◌++◌, get_or, length, map, sym, ap, ◌∙◌, append_assoc, arith}
use Rattle.std.proofs.lemmas.Fmt.{length-decimal-le}
use Rattle.std.proofs.lemmas.List.FromFn.{get_or-map-range_with_len}
use Rattle.std.specs.Fmt.{decimal}
use Rattle.std.specs.List.{range_with_len}
use Rattle.options_spec.specs.declared.options.Form.TheVariants.{Text}
use Rattle.report_spec.specs.Records.{record_bytes}

-- the list has the digits of each number at its place
pub digits_at : (all : List (List ℕ)) (i : ℕ) (d : List ℕ) → all ≡ map decimal (range_with_len 0 (length all)) → i < length all
    → get_or all i d ≡ decimal i
digits_at all i d are within =
    ap (λ ds. get_or ds i d) are ∙ get_or-map-range_with_len decimal 0 (length all) i i d within (omega arith)

-- a number of 32 bits has at most ten digits
pub digits_are_few : (n : ℕ) → n < 2 ^ 32 → length (decimal n) ≤ 10
digits_are_few n small = length-decimal-le 10 n (omega arith) (omega (arith, small)) (omega (arith, small))

-- a number and a space, and a number and a newline, are a row
pub row_of_two : (waiting a b : List ℕ)
    → (waiting ++ (a ++ 32 ∷ [])) ++ (b ++ 10 ∷ []) ≡ waiting ++ record_bytes Text (a ∷ b ∷ [])
row_of_two waiting a b =
    append_assoc waiting (a ++ 32 ∷ []) (b ++ 10 ∷ [])
    ∙ ap (λ row. waiting ++ row)
    (append_assoc a (32 ∷ []) (b ++ 10 ∷ []) ∙ sym (append_assoc a (32 ∷ b) (10 ∷ [])))

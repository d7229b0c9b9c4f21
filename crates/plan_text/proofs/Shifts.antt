-- A line of a script that is read has a shift of at most nine digits.
use Rattle.std.specs.Prelude.{◌≡◌, ℕ, zero, suc, ◌≤◌, ◌&&◌, ◌==◌, nat_le, Bool, true, false, List, [], ◌∷◌, length, Option, Some, None, option_map, IfSome, Result, Ok, Err, IfOk, ℤ, pos, neg_ℤ}
use Rattle.std.proofs.Common.{cond, All, refl, sym, ◌∙◌, arith}
use Rattle.std.specs.List.{list_all}
use Rattle.std.specs.Char.{is_ascii_digit}
use Rattle.std.specs.Str.Parse.{digits_value}
use Rattle.std.proofs.lemmas.Int.{ints}
use Rattle.std.proofs.lemmas.Str.Parse.{digits_value_short}
use Rattle.std.proofs.lemmas.List.Elements.{All-nil, All-cons, All-head, All-tail}
use Rattle.text_spec.specs.Names.{is_name}
use Rattle.text_spec.specs.Numbers.{number_of, natural_of}
use Rattle.plane_spec.specs.Vectors.{IsWithin}
use Rattle.grammar_spec.specs.declared.text_why.TextWhy.{TextWhy}
use Rattle.grammar_spec.specs.declared.script_line.Line.{Line}
use Rattle.grammar_spec.specs.declared.arguments.Count.{Count}
use Rattle.grammar_spec.specs.Arguments.{is_count, Fields, at, fields_with, number_before, numbers_of, read_fields, read_fields_by}
use Rattle.grammar_spec.specs.PlanText.{ok_map}
use Rattle.grammar_spec.specs.declared.script_line.ScriptWord.{ScriptWord}
use Rattle.grammar_spec.specs.declared.script_line.ScriptWord.TheVariants.{
  Add as AddWord,
  Addbox as AddboxWord,
  Remove as RemoveWord,
  Move as MoveWord,
  Addscreen as AddscreenWord,
  Removescreen as RemovescreenWord,
  Addroute as AddrouteWord,
  Removeroute as RemoverouteWord,
  Depth as DepthWord,
  Isovist as IsovistWord,
  Turns as TurnsWord,
}
use Rattle.grammar_spec.specs.ScriptText.{script_shape, line_of}
use Rattle.plan_text.specs.declared.faults.ReadLineFault.{ReadLineFault}
use Rattle.plan_text.specs.Readings.{ReadsLine, HasShiftInLine}
use Rattle.plan_text.proofs.PrintedNumbers.{own, digits_same}

-- ---- numbers

abbrev pub IsSmall : ℤ → Type 0
IsSmall z = IsWithin (pos 999999999) z

if_some : {X : Type 0} (P : X → Type 0) (t : Bool) (x : X) → (t ≡ true → P x) → IfSome (cond t (Some x) None) P
if_some P true x h = h refl
if_some P false x h = tt

digits_by : (l : ℕ) (digits : Bool) → (nat_le 1 l && (nat_le l 9 && digits)) ≡ true → (l ≤ 9) × (digits ≡ true)
digits_by l digits h = (grind arith, grind arith)

natural_small : (digits : List ℕ) → IfSome (natural_of digits) (λ n. n ≤ 999999999)
unfolding natural_of
natural_small digits =
    if_some (λ n. n ≤ 999999999) (nat_le 1 (length digits) && (nat_le (length digits) 9 && list_all is_ascii_digit digits)) (digits_value 10 digits)
    (λ e.
    let few = digits_by (length digits) (list_all is_ascii_digit digits) e in
    let below = digits_value_short own digits 9 (sym (digits_same digits) ∙ few.1) few.0 in
    omega (arith, below))

mapped : (f : ℕ → ℤ) → ((n : ℕ) → n ≤ 999999999 → IsSmall (f n)) → (found : Option ℕ) → IfSome found (λ n. n ≤ 999999999) → IfSome (option_map f found) IsSmall
mapped f h None k = tt
mapped f h (Some n) k = h n k

plain_small : (n : ℕ) → n ≤ 999999999 → IsSmall (pos n)
plain_small n h = record { low = omega (arith, ints); high = omega (arith, ints) }

negated_small : (n : ℕ) → n ≤ 999999999 → IsSmall (neg_ℤ (pos n))
negated_small n h = record { low = omega (arith, ints); high = omega (arith, ints) }

number_by : (minus : Bool) (rest whole : List ℕ) →
    IfSome (cond minus (option_map (λ n. neg_ℤ (pos n)) (natural_of rest)) (option_map (λ n. pos n) (natural_of whole))) IsSmall
number_by true rest whole = mapped (λ n. neg_ℤ (pos n)) negated_small (natural_of rest) (natural_small rest)
number_by false rest whole = mapped (λ n. pos n) plain_small (natural_of whole) (natural_small whole)

number_small : (word : List ℕ) → IfSome (number_of word) IsSmall
unfolding number_of
number_small [] = tt
number_small (b ∷ bytes) = number_by (b == 45) bytes (b ∷ bytes)

before_small : (first : Option ℤ) (rest : Option (List ℤ)) → IfSome first IsSmall → IfSome rest (All IsSmall) → IfSome (number_before first rest) (All IsSmall)
before_small None rest h k = tt
before_small (Some z) None h k = tt
before_small (Some z) (Some numbers) h k = All-cons IsSmall z numbers h k

numbers_small : (words : List (List ℕ)) → IfSome (numbers_of words) (All IsSmall)
unfolding numbers_of
numbers_small [] = All-nil IsSmall
numbers_small (word ∷ words) = before_small (number_of word) (numbers_of words) (number_small word) (numbers_small words)

-- ---- what stands after a keyword

abbrev pub HasSmall : Fields → Type 0
HasSmall fields = All IsSmall fields.numbers

with_small : (name : List ℕ) (numbers : Option (List ℤ)) → IfSome numbers (All IsSmall) → IfOk (fields_with name numbers) HasSmall
with_small name None h = tt
with_small name (Some numbers) h = h

if_ok : {X E : Type 0} (P : X → Type 0) (t : Bool) (answer : Result X E) (fault : E) → IfOk answer P → IfOk (cond t answer (Err fault)) P
if_ok P true answer fault h = h
if_ok P false answer fault h = tt

fields_small : (named : Bool) (count : Count) (words : List (List ℕ)) → IfOk (read_fields_by named count words) HasSmall
unfolding read_fields_by
fields_small false count words = if_ok HasSmall (is_count count (length words)) (fields_with [] (numbers_of words)) _ (with_small [] (numbers_of words) (numbers_small words))
fields_small true count [] = tt
fields_small true count (word ∷ words) =
    if_ok HasSmall (is_count count (length words)) _ _ (if_ok HasSmall (is_name word) (fields_with word (numbers_of words)) _ (with_small word (numbers_of words) (numbers_small words)))

number_at : (numbers : List ℤ) (k : ℕ) → All IsSmall numbers → IsSmall (at numbers k)
number_at [] k h = plain_small 0 (omega arith)
number_at (z ∷ numbers) zero h = All-head IsSmall z numbers h
number_at (z ∷ numbers) (suc k) h = number_at numbers k (All-tail IsSmall z numbers h)

-- ---- lines

line_has_shift : (word : ScriptWord) (fields : Fields) → HasSmall fields → HasShiftInLine (line_of word fields)
unfolding line_of
line_has_shift AddWord fields h = tt
line_has_shift AddboxWord fields h = tt
line_has_shift RemoveWord fields h = tt
line_has_shift MoveWord fields h = record { x = number_at fields.numbers 0 h; y = number_at fields.numbers 1 h }
line_has_shift AddscreenWord fields h = tt
line_has_shift RemovescreenWord fields h = tt
line_has_shift AddrouteWord fields h = tt
line_has_shift RemoverouteWord fields h = tt
line_has_shift DepthWord fields h = tt
line_has_shift IsovistWord fields h = tt
line_has_shift TurnsWord fields h = tt

kind_by : (word : ScriptWord) (found : Result Fields TextWhy) → IfOk found HasSmall → IfOk (ok_map (line_of word) found) HasShiftInLine
kind_by word (Ok fields) h = line_has_shift word fields h
kind_by word (Err why) h = tt

kind_has_shift : (word : ScriptWord) (words : List (List ℕ)) → IfOk (ok_map (line_of word) (read_fields (script_shape word) words)) HasShiftInLine
kind_has_shift word words =
    let asked = script_shape word in
    kind_by word (read_fields asked words) (fields_small asked.named asked.numbers words)

answer_by : (reading : Result Line TextWhy) (answer : Result Line ReadLineFault) → IfOk reading HasShiftInLine → ReadsLine reading answer → IfOk answer HasShiftInLine
answer_by reading (Ok line) h e = rw e at h
answer_by reading (Err fault) h e = tt

-- what is answered of the words after a keyword has a shift of at most nine digits
pub answer_has_shift : (word : ScriptWord) (words : List (List ℕ)) (answer : Result Line ReadLineFault) →
    ReadsLine (ok_map (line_of word) (read_fields (script_shape word) words)) answer → IfOk answer HasShiftInLine
answer_has_shift word words answer e = answer_by (ok_map (line_of word) (read_fields (script_shape word) words)) answer (kind_has_shift word words) e

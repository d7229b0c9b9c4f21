-- A line that is printed has its words, and a text that is printed its lines.
use Rattle.std.proofs.Common.{◌≡◌, ℕ, suc, ◌^◌, ◌<◌, ◌≤◌, Bool, true, false, ◌&&◌, ◌==◌, nat_le, List, [], ◌∷◌, ◌++◌, length, map, flat_map, filter, All, ℤ, pos, negsuc, refl, ap, ◌∙◌, append_assoc, arith, decimal}
use Rattle.std.specs.List.{list_all, slice_split, join_with_byte}
use Rattle.std.specs.Str.{all_ascii_digits}
use Rattle.std.specs.Fmt.{signed_decimal}
use Rattle.std.proofs.lemmas.Fmt.{digits_decimal, decimal_nonempty}
use Rattle.std.proofs.lemmas.List.Elements.{All-head, All-tail, All-nil, All-cons, All-append, All-weaker}
use Rattle.std.proofs.lemmas.List.Splits.{slice_split_none, slice_split_at, length-slice_split}
use Rattle.text_spec.specs.Lines.{lines_of, without_empty_last, without_return, is_newline}
use Rattle.text_spec.specs.Words.{words_of, is_space, is_some_bytes}
use Rattle.text_spec.specs.Names.{is_name, is_allowed}
use Rattle.grammar_spec.specs.PlanText.{ended_line}
use Rattle.plan_text.proofs.FirstLine.{not_last, no_lines}
use Rattle.plan_text.proofs.PrintedNumbers.{IsNumber, own}

-- ---- words of bytes above the space

abbrev pub IsInk : ℕ → Type 0
IsInk b = 33 ≤ b

abbrev pub IsPrinted : ℕ → Type 0
IsPrinted b = 32 ≤ b

pub record IsInkWord (word : List ℕ) : Type 0 where
  pub some : 0 < length word
  pub ink : All IsInk word

no_space : (b : ℕ) → IsInk b → is_space b ≡ false
no_space b h = grind arith

no_newline : (b : ℕ) → IsPrinted b → is_newline b ≡ false
no_newline b h = grind arith

no_return : (b : ℕ) → IsPrinted b → (b == 13) ≡ false
no_return b h = grind arith

ink_is_printed : (b : ℕ) → IsInk b → IsPrinted b
ink_is_printed b h = omega arith

kept : (word : List ℕ) (words : List (List ℕ)) → 0 < length word → filter is_some_bytes (word ∷ words) ≡ word ∷ filter is_some_bytes words
kept [] words h = absurd (omega arith)
kept (b ∷ bytes) words h = refl

without_space : (word : List ℕ) → IsInkWord word → All (λ b. is_space b ≡ false) word
without_space word h = All-weaker IsInk (λ b. is_space b ≡ false) no_space word h.ink

pub words_of_joined : (words : List (List ℕ)) → All IsInkWord words → words_of (join_with_byte 32 words) ≡ words
words_of_joined [] h = refl
words_of_joined (word ∷ []) h =
    let k = All-head IsInkWord word [] h in
    ap (filter is_some_bytes) (slice_split_none is_space word (without_space word k)) ∙ kept word [] k.some
words_of_joined (word ∷ next ∷ words) h =
    let k = All-head IsInkWord word (next ∷ words) h in
    let rest = join_with_byte 32 (next ∷ words) in
    ap (filter is_some_bytes) (slice_split_at is_space word 32 rest (without_space word k) refl)
    ∙ kept word (slice_split is_space rest) k.some
    ∙ ap (λ t. word ∷ t) (words_of_joined (next ∷ words) (All-tail IsInkWord word (next ∷ words) h))

joined_printed : (words : List (List ℕ)) → All IsInkWord words → All IsPrinted (join_with_byte 32 words)
joined_printed [] h = All-nil IsPrinted
joined_printed (word ∷ []) h = All-weaker IsInk IsPrinted ink_is_printed word (All-head IsInkWord word [] h).ink
joined_printed (word ∷ next ∷ words) h =
    let rest = join_with_byte 32 (next ∷ words) in
    All-append IsPrinted word (32 ∷ rest) (All-weaker IsInk IsPrinted ink_is_printed word (All-head IsInkWord word (next ∷ words) h).ink)
    (All-cons IsPrinted 32 rest (omega arith) (joined_printed (next ∷ words) (All-tail IsInkWord word (next ∷ words) h)))

-- ---- lines of such words

return_stays : (line : List ℕ) → All IsPrinted line → without_return line ≡ line
unfolding without_return
return_stays [] h = refl
return_stays (b ∷ []) h = rw (no_return b (All-head IsPrinted b [] h)) refl
return_stays (b ∷ c ∷ bytes) h = ap (λ t. b ∷ t) (return_stays (c ∷ bytes) (All-tail IsPrinted b (c ∷ bytes) h))

-- no return is dropped from a printed line
pub joined_whole : (words : List (List ℕ)) → All IsInkWord words → without_return (join_with_byte 32 words) ≡ join_with_byte 32 words
joined_whole words h = return_stays (join_with_byte 32 words) (joined_printed words h)

lines_step : (line rest : List ℕ) → All IsPrinted line → lines_of (line ++ 10 ∷ rest) ≡ line ∷ lines_of rest
lines_step line rest h =
    ap without_empty_last (slice_split_at is_newline line 10 rest (All-weaker IsPrinted (λ b. is_newline b ≡ false) no_newline line h) refl)
    ∙ not_last line (slice_split is_newline rest) (omega (arith, length-slice_split is_newline rest))

-- a text of lines of words has these lines
pub lines_of_printed : (lines : List (List (List ℕ))) → All (All IsInkWord) lines → lines_of (flat_map ended_line lines) ≡ map (join_with_byte 32) lines
lines_of_printed [] h = no_lines
lines_of_printed (line ∷ lines) h =
    ap lines_of (append_assoc (join_with_byte 32 line) (10 ∷ []) (flat_map ended_line lines))
    ∙ lines_step (join_with_byte 32 line) (flat_map ended_line lines) (joined_printed line (All-head (All IsInkWord) line lines h))
    ∙ ap (λ t. join_with_byte 32 line ∷ t) (lines_of_printed lines (All-tail (All IsInkWord) line lines h))

-- ---- the words that are printed

digits_ink : (digits : List ℕ) → all_ascii_digits digits ≡ true → All IsInk digits
digits_ink [] h = All-nil IsInk
digits_ink (d ∷ digits) h =
    let first : IsInk d = grind arith in
    let rest : all_ascii_digits digits ≡ true = grind arith in
    All-cons IsInk d digits first (digits_ink digits rest)

pub number_ink : (z : ℤ) → IsNumber z → IsInkWord (signed_decimal z)
number_ink (pos n) h =
    let small : n < 2 ^ 64 = omega arith in
    record { some = decimal_nonempty n small; ink = digits_ink (decimal n) (digits_decimal own n small) }
number_ink (negsuc n) h =
    let small : suc n < 2 ^ 64 = omega arith in
    record { some = omega arith; ink = All-cons IsInk 45 (decimal (suc n)) (omega arith) (digits_ink (decimal (suc n)) (digits_decimal own (suc n) small)) }

allowed_ink : (bytes : List ℕ) → list_all is_allowed bytes ≡ true → All IsInk bytes
allowed_ink [] h = All-nil IsInk
allowed_ink (b ∷ bytes) h =
    let first : IsInk b = grind arith in
    let rest : list_all is_allowed bytes ≡ true = grind arith in
    All-cons IsInk b bytes first (allowed_ink bytes rest)

name_by : (l : ℕ) (a : Bool) → (nat_le 1 l && (nat_le l 32 && a)) ≡ true → (0 < l) × (l ≤ 32) × (a ≡ true)
name_by l a h = (grind arith, grind arith, grind arith)

pub name_ink : (bytes : List ℕ) → is_name bytes ≡ true → IsInkWord bytes
name_ink bytes h =
    let k = name_by (length bytes) (list_all is_allowed bytes) h in
    record { some = k.0; ink = allowed_ink bytes k.2 }

pub name_length : (bytes : List ℕ) → is_name bytes ≡ true → length bytes ≤ 32
name_length bytes h = (name_by (length bytes) (list_all is_allowed bytes) h).1

-- The first word of bytes.
use Rattle.std.proofs.Common.{◌≡◌, ℕ, ◌+◌, ◌<◌, ◌≤◌, Some, None, nat_lt, Bool, true, false, not, List, [], ◌∷◌, length, take, drop, get_or, filter, refl, sym, ap, ◌∙◌, arith}
use Rattle.std.specs.List.{slice_split, position_or_len, position}
use Rattle.std.proofs.lemmas.List.{length-drop, length-take-le, drop_all, take_all, drop_more}
use Rattle.std.proofs.lemmas.List.Quantifiers.{position-Some}
use Rattle.std.proofs.lemmas.List.Splits.{slice_split_first, slice_split_none, slice_split-cons_yes}
use Rattle.text_spec.specs.Words.{words_of, is_space, is_some_bytes}
use Rattle.plan_text.proofs.Places.{found, not_found, none_passes, position_or_len_within, position_or_len-cons_no, position_or_len-cons_yes}

-- a byte of a word
abbrev pub is_inked : ℕ → Bool
is_inked b = not (is_space b)

-- ---- spaces at the front don't matter

one_passed : (b : ℕ) (bytes : List ℕ) → is_space b ≡ true → words_of (b ∷ bytes) ≡ words_of bytes
one_passed b bytes e = ap (filter is_some_bytes) (slice_split-cons_yes is_space b bytes e)

passed_by : (t : Bool) (b : ℕ) (bytes : List ℕ) → is_space b ≡ t → words_of (drop (position_or_len is_inked bytes) bytes) ≡ words_of bytes →
    words_of (drop (position_or_len is_inked (b ∷ bytes)) (b ∷ bytes)) ≡ words_of (b ∷ bytes)
passed_by true b bytes e rest = rw (position_or_len-cons_no is_inked b bytes (ap not e)) (rest ∙ sym (one_passed b bytes e))
passed_by false b bytes e rest = rw (position_or_len-cons_yes is_inked b bytes (ap not e)) refl

spaces_passed : (bytes : List ℕ) → words_of (drop (position_or_len is_inked bytes) bytes) ≡ words_of bytes
spaces_passed [] = refl
spaces_passed (b ∷ bytes) = passed_by (is_space b) b bytes refl (spaces_passed bytes)

-- without a byte of a word there is no word
pub no_words : (bytes : List ℕ) → position is_inked bytes ≡ None → words_of bytes ≡ []
no_words bytes e =
    let past : length bytes ≤ position_or_len is_inked bytes = omega (arith, not_found is_inked bytes e) in
    sym (spaces_passed bytes) ∙ ap words_of (drop_all (position_or_len is_inked bytes) bytes past)

-- ---- the first word ends at a space or at the end

kept : (word : List ℕ) (words : List (List ℕ)) → 0 < length word → filter is_some_bytes (word ∷ words) ≡ word ∷ filter is_some_bytes words
kept [] words h = absurd (omega arith)
kept (b ∷ bytes) words h = refl

word_by : (t : Bool) (bytes : List ℕ) (k : ℕ) → nat_lt k (length bytes) ≡ t → k ≡ position_or_len is_space bytes → 0 < k → words_of bytes ≡ take k bytes ∷ words_of (drop k bytes)
word_by true bytes k e place some =
    let within : k < length bytes = grind arith in
    let at : position is_space bytes ≡ Some k = rw (← place, e) refl in
    let ends : is_space (get_or bytes k 0) ≡ true = (position-Some is_space bytes k 0 at).1 in
    let split : slice_split is_space bytes ≡ take k bytes ∷ slice_split is_space (drop (k + 1) bytes) =
    rw place (slice_split_first is_space bytes 0 (omega arith)) in
    ap (filter is_some_bytes) split ∙ kept (take k bytes) (slice_split is_space (drop (k + 1) bytes)) (omega (arith, length-take-le k bytes (omega arith)))
    ∙ ap (λ words. take k bytes ∷ words) (sym (one_passed (get_or bytes k 0) (drop (k + 1) bytes) ends) ∙ ap words_of (sym (drop_more bytes k 0 within)))
word_by false bytes k e place some =
    let within : k ≤ length bytes = rw place (position_or_len_within is_space bytes) in
    let past : length bytes ≤ k = grind arith in
    let alone : words_of bytes ≡ bytes ∷ [] =
    ap (filter is_some_bytes) (slice_split_none is_space bytes (none_passes is_space bytes (omega arith))) ∙ kept bytes [] (omega arith) in
    rw (take_all k bytes past, drop_all k bytes past) alone

not_true : (t : Bool) → not t ≡ true → t ≡ false
not_true true e = absurd cc
not_true false e = refl

-- the two cuts give the first word and the rest
pub first_word : (bytes rest : List ℕ) (start end : ℕ) → position is_inked bytes ≡ Some start → rest ≡ drop start bytes → end ≡ position_or_len is_space rest →
    (words_of bytes ≡ take end rest ∷ words_of (drop end rest)) × (length (drop end rest) < length bytes)
first_word bytes rest start end e r f =
    let place = found is_inked bytes start e in
    let inked : is_space (get_or bytes start 0) ≡ false = not_true (is_space (get_or bytes start 0)) (position-Some is_inked bytes start 0 e).1 in
    let more : rest ≡ get_or bytes start 0 ∷ drop (start + 1) bytes = r ∙ drop_more bytes start 0 place.1 in
    let some : 0 < end = omega (arith, f, ap (position_or_len is_space) more, position_or_len-cons_no is_space (get_or bytes start 0) (drop (start + 1) bytes) inked) in
    let same : words_of bytes ≡ words_of rest = sym (spaces_passed bytes) ∙ ap words_of (ap (λ k. drop k bytes) (sym place.0) ∙ sym r) in
    (same ∙ word_by (nat_lt end (length rest)) rest end refl f some, omega (arith, length-drop end rest, ap length r, length-drop start bytes))

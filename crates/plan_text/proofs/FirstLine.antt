-- The first line of bytes, and a line without its return.
use Rattle.std.proofs.Common.{◌≡◌, ℕ, ◌+◌, ◌<◌, Some, None, false, List, [], ◌∷◌, length, take, drop, eqb, refl, ap, ◌∙◌, arith}
use Rattle.std.specs.List.{slice_split, position}
use Rattle.std.proofs.lemmas.List.Splits.{slice_split_first, slice_split_none, length-slice_split}
use Rattle.text_spec.specs.Lines.{lines_of, without_empty_last, is_newline}
use Rattle.plan_text.proofs.Places.{found, not_found, none_passes}

pub no_lines : lines_of [] ≡ []
unfolding without_empty_last
no_lines = refl

pub not_last : (part : List ℕ) (parts : List (List ℕ)) → 0 < length parts → without_empty_last (part ∷ parts) ≡ part ∷ without_empty_last parts
unfolding without_empty_last
not_last part [] h = absurd (omega arith)
not_last part (next ∷ parts) h = refl

-- a newline ends the first line
pub line_found : (bytes : List ℕ) (k : ℕ) → position is_newline bytes ≡ Some k → lines_of bytes ≡ take k bytes ∷ lines_of (drop (k + 1) bytes)
line_found bytes k e =
    let place = found is_newline bytes k e in
    let rest = drop (k + 1) bytes in
    let split : slice_split is_newline bytes ≡ take k bytes ∷ slice_split is_newline rest =
    rw place.0 (slice_split_first is_newline bytes 0 (omega arith)) in
    ap without_empty_last split ∙ not_last (take k bytes) (slice_split is_newline rest) (omega (arith, length-slice_split is_newline rest))

alone : (bytes : List ℕ) → 0 < length bytes → without_empty_last (bytes ∷ []) ≡ bytes ∷ []
unfolding without_empty_last
alone [] h = absurd (omega arith)
alone (b ∷ bytes) h = let some : eqb (length (b ∷ bytes)) 0 ≡ false = grind arith in rw some refl

-- without a newline there is one line
pub last_line : (bytes : List ℕ) → 0 < length bytes → position is_newline bytes ≡ None → lines_of bytes ≡ bytes ∷ []
last_line bytes h e =
    ap without_empty_last (slice_split_none is_newline bytes (none_passes is_newline bytes (not_found is_newline bytes e))) ∙ alone bytes h

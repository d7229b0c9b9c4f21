-- Lines of bytes that are put together.
use Rattle.std.proofs.Common.{◌≡◌, ◌<◌, ◌==◌, ◌||◌, ℕ, Bool, true, false, List, [], ◌∷◌, ◌++◌, length, inl, inr, refl, ap, sym, ◌∙◌, arith}
use Rattle.std.specs.List.{list_any, onto_first, slice_split}
use Rattle.std.proofs.lemmas.Grind.{common_steps}
use Rattle.std.proofs.lemmas.Bool.{cases_Bool, cond-true, cond-false, false≢true}
use Rattle.text_spec.specs.Lines.{is_newline, lines_of, without_empty_last}

split-other : (b : ℕ) (rest : List ℕ) → is_newline b ≡ false → slice_split is_newline (b ∷ rest) ≡ onto_first b (slice_split is_newline rest)
split-other b rest e = cond-false (is_newline b) _ _ e

pub or-left : (a b : Bool) → (a || b) ≡ false → a ≡ false
or-left true b e = e
or-left false b e = refl

pub or-right : (a b : Bool) → (a || b) ≡ false → b ≡ false
or-right true b e = absurd (false≢true (sym e))
or-right false b e = e

-- the first part ends at the first newline
pub split-cut : (line rest : List ℕ) → list_any is_newline line ≡ false → slice_split is_newline (line ++ 10 ∷ rest) ≡ line ∷ slice_split is_newline rest
split-cut [] rest plain = refl
split-cut (b ∷ line) rest plain =
    split-other b (line ++ 10 ∷ rest) (or-left (is_newline b) (list_any is_newline line) plain)
    ∙ ap (onto_first b) (split-cut line rest (or-right (is_newline b) (list_any is_newline line) plain))

-- with no newline there is one part
pub split-plain : (line : List ℕ) → list_any is_newline line ≡ false → slice_split is_newline line ≡ line ∷ []
split-plain [] plain = refl
split-plain (b ∷ line) plain =
    split-other b line (or-left (is_newline b) (list_any is_newline line) plain)
    ∙ ap (onto_first b) (split-plain line (or-right (is_newline b) (list_any is_newline line) plain))

-- there is a first part
pub split-some : (bytes : List ℕ) → (first : List ℕ) × (rest : List (List ℕ)) × (slice_split is_newline bytes ≡ first ∷ rest)
split-some [] = ([], [], refl)
split-some (b ∷ bytes) =
    let more = split-some bytes in
    elim (cases_Bool (is_newline b)) [
      | inl yes' ↦ ([], slice_split is_newline bytes, cond-true (is_newline b) _ _ yes')
      | inr no' ↦ (b ∷ more.0, more.1, split-other b bytes no' ∙ ap (onto_first b) more.2)
    ]

keeps-first : (line : List ℕ) (parts : List (List ℕ)) (first : List ℕ) (rest : List (List ℕ)) → parts ≡ first ∷ rest → without_empty_last (line ∷ parts) ≡ line ∷ without_empty_last parts
unfolding without_empty_last
keeps-first line parts first rest e = rw e refl

-- a line, its newline and then other bytes
pub lines_of-cut : (line rest : List ℕ) → list_any is_newline line ≡ false → lines_of (line ++ 10 ∷ rest) ≡ line ∷ lines_of rest
lines_of-cut line rest plain =
    let more = split-some rest in
    ap without_empty_last (split-cut line rest plain) ∙ keeps-first line (slice_split is_newline rest) more.0 more.1 more.2

pub lines_of-nil : lines_of [] ≡ []
unfolding without_empty_last
lines_of-nil = refl

one-part : (line : List ℕ) → 0 < length line → without_empty_last (line ∷ []) ≡ line ∷ []
unfolding without_empty_last
one-part [] some = absurd (omega arith)
one-part (b ∷ line) some =
    let some_bytes : (length (b ∷ line) == 0) ≡ false = grind (arith, common_steps) in
    cond-false (length (b ∷ line) == 0) [] ((b ∷ line) ∷ []) some_bytes

-- one line without a newline
pub lines_of-last : (line : List ℕ) → 0 < length line → list_any is_newline line ≡ false → lines_of line ≡ line ∷ []
lines_of-last line some plain = ap without_empty_last (split-plain line plain) ∙ one-part line some

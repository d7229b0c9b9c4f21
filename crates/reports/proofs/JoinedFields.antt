-- Fields that are joined by spaces, one after the other.
use Rattle.std.proofs.Common.{◌≡◌, ◌≤◌, ◌<◌, ◌+◌, ℕ, List, [], ◌∷◌, ◌++◌, drop, get_or, length, sym, ap, ◌∙◌, append_assoc, arith}
use Rattle.std.specs.List.{join_with_byte}
use Rattle.std.proofs.lemmas.List.{append-nil, drop_all, drop_more}

-- each field with a space before it
unfoldable pub spaced : List (List ℕ) → List ℕ
spaced [] = []
spaced (field ∷ fields) = 32 ∷ field ++ spaced fields

joined : (field : List ℕ) (fields : List (List ℕ)) → field ++ spaced fields ≡ join_with_byte 32 (field ∷ fields)
unfolding spaced
joined field [] = append-nil field
joined field (next ∷ fields) = ap (λ t. field ++ 32 ∷ t) (joined next fields)

pub first_put : (text : List ℕ) (row : List (List ℕ)) → 0 < length row
    → (text ++ get_or row 0 []) ++ spaced (drop 1 row) ≡ text ++ join_with_byte 32 row
first_put text [] some = absurd (omega arith)
first_put text (field ∷ fields) some =
    append_assoc text field (spaced fields) ∙ ap (λ t. text ++ t) (joined field fields)

pub next_put : (text : List ℕ) (row : List (List ℕ)) (k : ℕ) → k < length row
    → ((text ++ 32 ∷ []) ++ get_or row k []) ++ spaced (drop (k + 1) row) ≡ text ++ spaced (drop k row)
unfolding spaced
next_put text row k below =
    append_assoc (text ++ 32 ∷ []) (get_or row k []) (spaced (drop (k + 1) row))
    ∙ append_assoc text (32 ∷ []) (get_or row k [] ++ spaced (drop (k + 1) row))
    ∙ ap (λ fields. text ++ spaced fields) (sym (drop_more row k [] below))

pub all_put : (text : List ℕ) (row : List (List ℕ)) (k : ℕ) → length row ≤ k → text ++ spaced (drop k row) ≡ text
unfolding spaced
all_put text row k all = ap (λ fields. text ++ spaced fields) (drop_all k row all) ∙ append-nil text

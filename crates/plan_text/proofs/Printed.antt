-- Words, printed one after the other.
use Rattle.std.proofs.Common.{◌≡◌, ℕ, List, [], ◌∷◌, ◌++◌, ap, ◌∙◌, append_assoc}
use Rattle.std.specs.List.{join_with_byte}
use Rattle.std.proofs.lemmas.List.{append-nil}
use Rattle.plan_text.specs.Printing.{spaced}

-- words joined by spaces have a space before each but the first
pub joined_spaced : (word : List ℕ) (words : List (List ℕ)) → word ++ spaced words ≡ join_with_byte 32 (word ∷ words)
unfolding spaced
joined_spaced word [] = append-nil word
joined_spaced word (next ∷ words) = ap (λ t. word ++ 32 ∷ t) (joined_spaced next words)

-- some words and then others
pub spaced_more : (text : List ℕ) (front words : List (List ℕ)) → (text ++ spaced front) ++ spaced words ≡ text ++ spaced (front ++ words)
unfolding spaced
spaced_more text [] words = ap (λ t. t ++ spaced words) (append-nil text)
spaced_more text (word ∷ front) words =
    append_assoc text (32 ∷ (word ++ spaced front)) (spaced words) ∙ ap (λ t. text ++ 32 ∷ t) (spaced_more word front words)

-- a line's words and its end
pub line_ended : (text first : List ℕ) (words : List (List ℕ)) → ((text ++ first) ++ spaced words) ++ 10 ∷ [] ≡ text ++ (join_with_byte 32 (first ∷ words) ++ 10 ∷ [])
line_ended text first words =
    ap (λ t. t ++ 10 ∷ []) (append_assoc text first (spaced words) ∙ ap (λ t. text ++ t) (joined_spaced first words))
    ∙ append_assoc text (join_with_byte 32 (first ∷ words)) (10 ∷ [])

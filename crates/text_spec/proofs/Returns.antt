-- A line without its carriage return.
use Rattle.std.proofs.Common.{◌≡◌, ℕ, Some, None, Bool, true, false, List, [], ◌∷◌, ◌++◌, ◌≢◌, cond, eqb, Option}
use Rattle.std.proofs.Common.{◌≤◌, length, take, MatchOption, unwrap_or, Bor, refl, sym, ap, ◌∙◌, arith}
use Rattle.text_spec.specs.Lines.{without_return}

pub return_dropped : (front : List ℕ) → without_return (front ++ 13 ∷ []) ≡ front
unfolding without_return
return_dropped [] = refl
return_dropped (b ∷ []) = refl
return_dropped (b ∷ c ∷ bytes) = ap (λ t. b ∷ t) (return_dropped (c ∷ bytes))

one_by : (t : Bool) (b : ℕ) → eqb b 13 ≡ t → (t ≡ true → ⊥) → cond (eqb b 13) [] (b ∷ []) ≡ b ∷ []
one_by true b e h = absurd (h refl)
one_by false b e h = rw e refl

pub no_return : (line : List ℕ) → ((front : List ℕ) → line ≢ front ++ 13 ∷ []) → without_return line ≡ line
unfolding without_return
no_return [] h = refl
no_return (b ∷ []) h = one_by (eqb b 13) b refl (λ e. h [] (let same : b ≡ 13 = grind arith in ap (λ n. n ∷ []) same))
no_return (b ∷ c ∷ bytes) h = ap (λ t. b ∷ t) (no_return (c ∷ bytes) (λ front e. h (b ∷ front) (ap (λ t. b ∷ t) e)))

pub stripped : (line : List ℕ) (found : Option (Bor (List ℕ))) (whole : Bor (List ℕ)) →
    MatchOption found ((front : List ℕ) → line ≢ front ++ 13 ∷ []) (λ x. line ≡ x.now ++ 13 ∷ []) → whole.now ≡ line → (unwrap_or found whole).now ≡ without_return line
stripped line None whole h same = same ∙ sym (no_return line h)
stripped line (Some front) whole h same = sym (ap without_return h ∙ return_dropped front.now)

-- ---- what is shown is a prefix of the line

one_front : (t : Bool) (b : ℕ) → take (length (cond t [] (b ∷ []))) (b ∷ []) ≡ cond t [] (b ∷ [])
one_front true b = refl
one_front false b = refl

pub shown_front : (line : List ℕ) → take (length (without_return line)) line ≡ without_return line
unfolding without_return
shown_front [] = refl
shown_front (b ∷ []) = one_front (eqb b 13) b
shown_front (b ∷ c ∷ bytes) = ap (λ t. b ∷ t) (shown_front (c ∷ bytes))

one_within : (t : Bool) (b : ℕ) → length (cond t [] (b ∷ [])) ≤ 1
one_within true b = omega arith
one_within false b = omega arith

pub shown_within : (line : List ℕ) → length (without_return line) ≤ length line
unfolding without_return
shown_within [] = omega arith
shown_within (b ∷ []) = one_within (eqb b 13) b
shown_within (b ∷ c ∷ bytes) = omega (arith, shown_within (c ∷ bytes))

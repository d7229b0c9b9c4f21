-- The replies to some lines and then to others, the state that they leave, and whether one of them is refused.
use Rattle.std.proofs.Common.{◌≡◌, ◌+◌, ◌||◌, ℕ, Bool, true, false, List, [], ◌∷◌, ◌++◌, length, refl, ap, sym, ◌∙◌, append_assoc, append-nil, arith}
use Rattle.script_loop.specs.Steps.{LineStep, has_refusal_by, replies_by, state_after}

-- ---- no lines

pub state-nil : {S : Type 0} (step : S → ℕ → List ℕ → LineStep S) (s : S) (n : ℕ) → state_after step s n [] ≡ s
unfolding state_after
state-nil step s n = refl

pub replies-nil : {S : Type 0} (step : S → ℕ → List ℕ → LineStep S) (s : S) (n : ℕ) → replies_by step s n [] ≡ []
unfolding replies_by
replies-nil step s n = refl

pub refusal-nil : {S : Type 0} (step : S → ℕ → List ℕ → LineStep S) (s : S) (n : ℕ) → has_refusal_by step s n [] ≡ false
unfolding has_refusal_by
refusal-nil step s n = refl

-- ---- one list of lines after the other

pub state-append : {S : Type 0} (step : S → ℕ → List ℕ → LineStep S) (s : S) (n : ℕ) (lines more : List (List ℕ))
    → state_after step s n (lines ++ more) ≡ state_after step (state_after step s n lines) (n + length lines) more
unfolding state_after
state-append step s n [] more = ap (λ k. state_after step s k more) (omega arith)
state-append step s n (line ∷ lines) more =
    state-append step (step s n line).state (n + 1) lines more
    ∙ ap (λ k. state_after step (state_after step (step s n line).state (n + 1) lines) k more) (omega arith)

pub replies-append : {S : Type 0} (step : S → ℕ → List ℕ → LineStep S) (s : S) (n : ℕ) (lines more : List (List ℕ))
    → replies_by step s n (lines ++ more)
    ≡ replies_by step s n lines ++ replies_by step (state_after step s n lines) (n + length lines) more
unfolding replies_by state_after
replies-append step s n [] more = ap (λ k. replies_by step s k more) (omega arith)
replies-append step s n (line ∷ lines) more =
    ap (λ r. (step s n line).reply ++ r)
    (replies-append step (step s n line).state (n + 1) lines more
    ∙ ap (λ k. replies_by step (step s n line).state (n + 1) lines
    ++ replies_by step (state_after step (step s n line).state (n + 1) lines) k more) (omega arith))
    ∙ sym (append_assoc (step s n line).reply (replies_by step (step s n line).state (n + 1) lines)
    (replies_by step (state_after step s n (line ∷ lines)) (n + length (line ∷ lines)) more))

or-assoc : (a b c : Bool) → (a || (b || c)) ≡ ((a || b) || c)
or-assoc true b c = refl
or-assoc false b c = refl

pub refusal-append : {S : Type 0} (step : S → ℕ → List ℕ → LineStep S) (s : S) (n : ℕ) (lines more : List (List ℕ))
    → has_refusal_by step s n (lines ++ more)
    ≡ (has_refusal_by step s n lines || has_refusal_by step (state_after step s n lines) (n + length lines) more)
unfolding has_refusal_by state_after
refusal-append step s n [] more = ap (λ k. has_refusal_by step s k more) (omega arith)
refusal-append step s n (line ∷ lines) more =
    ap (λ r. (step s n line).refused || r)
    (refusal-append step (step s n line).state (n + 1) lines more
    ∙ ap (λ k. has_refusal_by step (step s n line).state (n + 1) lines
    || has_refusal_by step (state_after step (step s n line).state (n + 1) lines) k more) (omega arith))
    ∙ or-assoc (step s n line).refused (has_refusal_by step (step s n line).state (n + 1) lines)
    (has_refusal_by step (state_after step s n (line ∷ lines)) (n + length (line ∷ lines)) more)

-- ---- one line

or-none : (a : Bool) → (a || false) ≡ a
or-none true = refl
or-none false = refl

state-one : {S : Type 0} (step : S → ℕ → List ℕ → LineStep S) (s : S) (n : ℕ) (line : List ℕ)
    → state_after step s n (line ∷ []) ≡ (step s n line).state
unfolding state_after
state-one step s n line = refl

replies-one : {S : Type 0} (step : S → ℕ → List ℕ → LineStep S) (s : S) (n : ℕ) (line : List ℕ)
    → replies_by step s n (line ∷ []) ≡ (step s n line).reply
unfolding replies_by
replies-one step s n line = append-nil (step s n line).reply

refusal-one : {S : Type 0} (step : S → ℕ → List ℕ → LineStep S) (s : S) (n : ℕ) (line : List ℕ)
    → has_refusal_by step s n (line ∷ []) ≡ (step s n line).refused
unfolding has_refusal_by
refusal-one step s n line = or-none (step s n line).refused

-- ---- a line more, of this number

pub state-more : {S : Type 0} (step : S → ℕ → List ℕ → LineStep S) (s : S) (n m : ℕ) (lines : List (List ℕ)) (line : List ℕ)
    → m ≡ n + length lines → state_after step s n (lines ++ line ∷ []) ≡ (step (state_after step s n lines) m line).state
state-more step s n m lines line e =
    state-append step s n lines (line ∷ [])
    ∙ ap (λ k. state_after step (state_after step s n lines) k (line ∷ [])) (sym e)
    ∙ state-one step (state_after step s n lines) m line

pub replies-more : {S : Type 0} (step : S → ℕ → List ℕ → LineStep S) (s : S) (n m : ℕ) (lines : List (List ℕ)) (line : List ℕ)
    → m ≡ n + length lines
    → replies_by step s n (lines ++ line ∷ []) ≡ replies_by step s n lines ++ (step (state_after step s n lines) m line).reply
replies-more step s n m lines line e =
    replies-append step s n lines (line ∷ [])
    ∙ ap (λ r. replies_by step s n lines ++ r)
    (ap (λ k. replies_by step (state_after step s n lines) k (line ∷ [])) (sym e)
    ∙ replies-one step (state_after step s n lines) m line)

pub refusal-more : {S : Type 0} (step : S → ℕ → List ℕ → LineStep S) (s : S) (n m : ℕ) (lines : List (List ℕ)) (line : List ℕ)
    → m ≡ n + length lines
    → has_refusal_by step s n (lines ++ line ∷ [])
    ≡ (has_refusal_by step s n lines || (step (state_after step s n lines) m line).refused)
refusal-more step s n m lines line e =
    refusal-append step s n lines (line ∷ [])
    ∙ ap (λ r. has_refusal_by step s n lines || r)
    (ap (λ k. has_refusal_by step (state_after step s n lines) k (line ∷ [])) (sym e)
    ∙ refusal-one step (state_after step s n lines) m line)

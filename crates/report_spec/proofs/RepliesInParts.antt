-- The replies to lines that come in parts: first some, and then more on the plan that those leave.
use Rattle.std.specs.Prelude.{◌≡◌, ℕ, ◌+◌, List, [], ◌∷◌, ◌++◌, length, ◌||◌}
use Rattle.std.proofs.Common.{sym, ap, ◌∙◌, arith, add-zero, append-nil, append_assoc}
use Rattle.std.proofs.Math.Bool.{or_assoc, or-false}
use Rattle.plan_spec.specs.Plan.{Plan}
use Rattle.report_spec.specs.Replies.{Step, step, replies, plan_after, has_refusal}

-- what a line does after others
abbrev pub step_after : Plan → ℕ → List (List ℕ) → List ℕ → Step
step_after plan n lines line = step (plan_after plan n lines) (n + length lines) line

-- the line after the first and then others has the number after theirs
number_after : (n : ℕ) (line : List ℕ) (lines : List (List ℕ)) → n + 1 + length lines ≡ n + length (line ∷ lines)
number_after n line lines = omega arith

-- ---- lines and then more

pub plan_after_append : (plan : Plan) (n : ℕ) (lines more : List (List ℕ))
    → plan_after plan n (lines ++ more) ≡ plan_after (plan_after plan n lines) (n + length lines) more
unfolding plan_after
plan_after_append plan n [] more = ap (λ (k : ℕ). plan_after plan k more) (sym (add-zero n))
plan_after_append plan n (line ∷ lines) more =
    let next = (step plan n line).plan in
    plan_after_append next (n + 1) lines more
    ∙ ap (λ (k : ℕ). plan_after (plan_after next (n + 1) lines) k more) (number_after n line lines)

-- the replies to lines and then more are those to the lines, and then those to the rest on the plan that is left
pub replies_append : (plan : Plan) (n : ℕ) (lines more : List (List ℕ))
    → replies plan n (lines ++ more)
    ≡ replies plan n lines ++ replies (plan_after plan n lines) (n + length lines) more
unfolding replies plan_after
replies_append plan n [] more = ap (λ (k : ℕ). replies plan k more) (sym (add-zero n))
replies_append plan n (line ∷ lines) more =
    let here = (step plan n line).records in
    let next = (step plan n line).plan in
    let first = replies next (n + 1) lines in
    let left = plan_after next (n + 1) lines in
    ap (λ rest. here ++ rest) (replies_append next (n + 1) lines more)
    ∙ ap (λ (k : ℕ). here ++ (first ++ replies left k more)) (number_after n line lines)
    ∙ sym (append_assoc here first (replies left (n + length (line ∷ lines)) more))

-- one of lines and then more is refused, where one of the lines is or one of the rest on the plan that is left
pub has_refusal_append : (plan : Plan) (n : ℕ) (lines more : List (List ℕ))
    → has_refusal plan n (lines ++ more)
    ≡ (has_refusal plan n lines || has_refusal (plan_after plan n lines) (n + length lines) more)
unfolding has_refusal plan_after
has_refusal_append plan n [] more = ap (λ (k : ℕ). has_refusal plan k more) (sym (add-zero n))
has_refusal_append plan n (line ∷ lines) more =
    let here = (step plan n line).refused in
    let next = (step plan n line).plan in
    let first = has_refusal next (n + 1) lines in
    let left = plan_after next (n + 1) lines in
    ap (λ rest. here || rest) (has_refusal_append next (n + 1) lines more)
    ∙ ap (λ (k : ℕ). here || (first || has_refusal left k more)) (number_after n line lines)
    ∙ sym (or_assoc here first (has_refusal left (n + length (line ∷ lines)) more))

-- ---- lines and then one more

pub plan_after_push : (plan : Plan) (n : ℕ) (lines : List (List ℕ)) (line : List ℕ)
    → plan_after plan n (lines ++ line ∷ []) ≡ (step_after plan n lines line).plan
unfolding plan_after
plan_after_push plan n lines line = plan_after_append plan n lines (line ∷ [])

pub replies_push : (plan : Plan) (n : ℕ) (lines : List (List ℕ)) (line : List ℕ)
    → replies plan n (lines ++ line ∷ []) ≡ replies plan n lines ++ (step_after plan n lines line).records
unfolding replies
replies_push plan n lines line =
    replies_append plan n lines (line ∷ [])
    ∙ ap (λ last. replies plan n lines ++ last) (append-nil (step_after plan n lines line).records)

pub has_refusal_push : (plan : Plan) (n : ℕ) (lines : List (List ℕ)) (line : List ℕ)
    → has_refusal plan n (lines ++ line ∷ []) ≡ (has_refusal plan n lines || (step_after plan n lines line).refused)
unfolding has_refusal
has_refusal_push plan n lines line =
    has_refusal_append plan n lines (line ∷ [])
    ∙ ap (λ last. has_refusal plan n lines || last) (or-false (step_after plan n lines line).refused)

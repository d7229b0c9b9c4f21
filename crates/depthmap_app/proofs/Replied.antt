-- The loop over the lines of a script in the words of plans: its replies, the plan that it leaves, and its refusals.
use Rattle.std.proofs.Common.{◌≡◌, ◌≤◌, ◌+◌, ◌||◌, ℕ, Bool, List, [], ◌∷◌, ◌++◌, length, length-append, take, Option, refl, ap, sym, subst, ◌∙◌, arith}
use Rattle.std.proofs.lemmas.Grind.{flat_map-append}
use Rattle.std.proofs.lemmas.List.{take-append-le}
use Rattle.dm_io.specs.Streams.{WritesPrefix, appended_to}
use Rattle.dm_io.proofs.Pieces.{appended_to-append, writes_prefix-then}
use Rattle.options_spec.specs.declared.options.Form.{Form}
use Rattle.options_spec.specs.declared.options.Mode.{Mode}
use Rattle.plan_spec.specs.Plan.{Plan}
use Rattle.report_spec.specs.Output.{mode_is_refused, mode_records, output_is_refused, output_of, reply_bytes}
use Rattle.report_spec.specs.Records.{record_bytes, records_bytes}
use Rattle.report_spec.specs.Replies.{has_refusal, plan_after, replies, step}
use Rattle.script_loop.specs.Steps.{has_refusal_by, replies_by, state_after}
use Rattle.depthmap_app.specs.Lines.{desk, line_step}

-- ---- line by line

replies-are : (form : Form) (plan : Plan) (n : ℕ) (lines : List (List ℕ))
    → replies_by line_step (desk plan form) n lines ≡ records_bytes form (replies plan n lines)
unfolding replies_by replies
replies-are form plan n [] = refl
replies-are form plan n (line ∷ lines) =
    let s = step plan n line in
    ap (λ rest. records_bytes form s.records ++ rest) (replies-are form s.plan (n + 1) lines)
    ∙ sym (flat_map-append (record_bytes form) s.records (replies s.plan (n + 1) lines))

pub plan-left : (form : Form) (plan : Plan) (n : ℕ) (lines : List (List ℕ))
    → state_after line_step (desk plan form) n lines ≡ desk (plan_after plan n lines) form
unfolding state_after plan_after
plan-left form plan n [] = refl
plan-left form plan n (line ∷ lines) = plan-left form (step plan n line).plan (n + 1) lines

pub refusal-is : (form : Form) (plan : Plan) (n : ℕ) (lines : List (List ℕ))
    → has_refusal_by line_step (desk plan form) n lines ≡ has_refusal plan n lines
unfolding has_refusal_by has_refusal
refusal-is form plan n [] = refl
refusal-is form plan n (line ∷ lines) =
    ap (λ rest. (step plan n line).refused || rest) (refusal-is form (step plan n line).plan (n + 1) lines)

-- ---- what is written of the replies

pub bytes-are : (form : Form) (plan : Plan) (lines : List (List ℕ))
    → replies_by line_step (desk plan form) 1 lines ≡ reply_bytes form plan lines
unfolding reply_bytes
bytes-are form plan lines = replies-are form plan 1 lines

-- ---- and then the tables

-- the tables were written over the plan that the lines leave
pub output-written : (mode : Mode) (form : Form) (plan left : Plan) (before mid after : Option (List ℕ)) (lines : List (List ℕ))
    → left ≡ plan_after plan 1 lines → mid ≡ appended_to before (reply_bytes form plan lines)
    → after ≡ appended_to mid (records_bytes form (mode_records mode left))
    → after ≡ appended_to before (output_of mode form plan lines)
unfolding output_of
output-written mode form plan left before mid after lines is first tables =
    let printed : Plan → List ℕ = λ p. records_bytes form (mode_records mode p) in
    tables
    ∙ ap (λ o. appended_to o (printed left)) first
    ∙ appended_to-append before (reply_bytes form plan lines) (printed left)
    ∙ ap (λ p. appended_to before (reply_bytes form plan lines ++ printed p)) is

-- a prefix of them was written
pub output-begun : (mode : Mode) (form : Form) (plan left : Plan) (before mid after : Option (List ℕ)) (lines : List (List ℕ))
    → left ≡ plan_after plan 1 lines → mid ≡ appended_to before (reply_bytes form plan lines)
    → WritesPrefix mid after (records_bytes form (mode_records mode left))
    → WritesPrefix before after (output_of mode form plan lines)
unfolding output_of
output-begun mode form plan left before mid after lines is first tables =
    let printed : Plan → List ℕ = λ p. records_bytes form (mode_records mode p) in
    subst (λ p. WritesPrefix before after (reply_bytes form plan lines ++ printed p)) is
    (writes_prefix-then before mid after (reply_bytes form plan lines) (printed left) first tables)

-- a prefix of the first of some bytes is one of all of them
prefix-of_more : (before after : Option (List ℕ)) (bytes more : List ℕ) → WritesPrefix before after bytes
    → WritesPrefix before after (bytes ++ more)
prefix-of_more before after bytes more front = (
  front.0,
  omega (arith, front.1, length-append bytes more),
  front.2 ∙ ap (appended_to before) (sym (take-append-le front.0 bytes more front.1)),
)

-- a prefix of the replies is one of the whole output
pub replies-begun : (mode : Mode) (form : Form) (plan : Plan) (before after : Option (List ℕ)) (lines : List (List ℕ))
    → WritesPrefix before after (reply_bytes form plan lines) → WritesPrefix before after (output_of mode form plan lines)
unfolding output_of
replies-begun mode form plan before after lines w =
    prefix-of_more before after (reply_bytes form plan lines)
    (records_bytes form (mode_records mode (plan_after plan 1 lines))) w

pub output-refusal : (mode : Mode) (plan left : Plan) (lines : List (List ℕ)) (refused mode_refused : Bool)
    → left ≡ plan_after plan 1 lines → refused ≡ has_refusal plan 1 lines → mode_refused ≡ mode_is_refused mode left
    → output_is_refused mode plan lines ≡ (refused || mode_refused)
unfolding output_is_refused
output-refusal mode plan left lines refused mode_refused is r m =
    sym (ap (λ b. b || mode_refused) r ∙ ap (λ b. has_refusal plan 1 lines || b) m
    ∙ ap (λ p. has_refusal plan 1 lines || mode_is_refused mode p) is)

-- What the answer to a shown line says of the line as it stands in the script.
use Rattle.std.proofs.Common.{◌≡◌, ◌∙◌, ℕ, Bool, true, false, List, [], ◌∷◌, Option, Some, None, Result, Ok, Err, IfOk, OnErr, OnOk, refl, sym, ap, subst, inr}
use Rattle.text_spec.specs.Lines.{is_long}
use Rattle.plan_spec.specs.Plan.{Plan}
use Rattle.grammar_spec.specs.declared.text_why.TextWhy.TheVariants.{Long}
use Rattle.grammar_spec.specs.ScriptText.{read_line_of_script}
use Rattle.options_spec.specs.declared.options.Form.{Form}
use Rattle.report_spec.specs.declared.reason.Reason.TheVariants.{Text as TextReason}
use Rattle.report_spec.specs.Records.{records_bytes}
use Rattle.report_spec.specs.Replies.{Step, refusal, step, step_by}
use Rattle.dm_io.specs.Streams.{WritesPrefix, appended_to}
use Rattle.script_loop.specs.Steps.{Shows}
use Rattle.plan_text.specs.Readings.{IsShown, reading_of_shown}
use Rattle.reports.specs.declared.fault.ReportFault.{ReportFault}
use Rattle.plan_answers.specs.Answered.{Answers, Leaves, Replies}

-- ---- the parts of what an answer says

pub written_by : (form : Form) (before after : Option (List ℕ)) (rows : List (List (List ℕ))) (refused : Bool)
    (result : Result Bool ReportFault) → Answers form before after rows refused result
    → OnOk result (after ≡ appended_to before (records_bytes form rows))
written_by form before after rows refused (Ok answer) h = h.0
written_by form before after rows refused (Err fault) h = tt

pub refused_by : (form : Form) (before after : Option (List ℕ)) (rows : List (List (List ℕ))) (refused : Bool)
    (result : Result Bool ReportFault) → Answers form before after rows refused result
    → IfOk result (λ answer. answer ≡ refused)
refused_by form before after rows refused (Ok answer) h = h.1
refused_by form before after rows refused (Err fault) h = tt

pub prefix_by : (form : Form) (before after : Option (List ℕ)) (rows : List (List (List ℕ))) (refused : Bool)
    (result : Result Bool ReportFault) → Answers form before after rows refused result
    → OnErr result (WritesPrefix before after (records_bytes form rows))
prefix_by form before after rows refused (Ok answer) h = tt
prefix_by form before after rows refused (Err fault) h = h

-- ---- lines as they are shown

-- what a line does, by what is shown of it
pub step_shown : ((line shown : List ℕ) → IsShown line shown → reading_of_shown shown ≡ read_line_of_script line)
    → (plan : Plan) (number : ℕ) (bytes whole : List ℕ) → Shows whole (Some bytes)
    → step_by plan number (reading_of_shown bytes) ≡ step plan number whole
unfolding step
step_shown read plan number bytes whole h =
    ap (step_by plan number) (read whole bytes (record { short = h.0; bytes = sym h.1 }))

-- and where it is too long
pub step_long : ((line : List ℕ) → is_long line ≡ true → read_line_of_script line ≡ Err Long)
    → (plan : Plan) (number : ℕ) (whole : List ℕ) → Shows whole None
    → refusal plan number (TextReason Long) ≡ step plan number whole
unfolding step
step_long read plan number whole h = ap (step_by plan number) (sym (read whole h))

-- ---- what is said of the line as it stands

-- the reply is that of each line that is shown so
abbrev pub SameStep : Plan → ℕ → Option (List ℕ) → Step → Type 0
SameStep plan number shown s = (whole : List ℕ) → Shows whole shown → s ≡ step plan number whole

pub shown_written : (form : Form) (before after : Option (List ℕ)) (plan : Plan) (number : ℕ)
    (shown : Option (List ℕ)) (s : Step) (result : Result Bool ReportFault) → SameStep plan number shown s
    → Replies form before after s result
    → OnOk result ((whole : List ℕ) → Shows whole shown
    → after ≡ appended_to before (records_bytes form (step plan number whole).records))
shown_written form before after plan number shown s (Ok answer) same h =
    λ whole w. h.0 ∙ ap (λ (t : Step). appended_to before (records_bytes form t.records)) (same whole w)
shown_written form before after plan number shown s (Err fault) same h = tt

pub shown_refused : (form : Form) (before after : Option (List ℕ)) (plan : Plan) (number : ℕ)
    (shown : Option (List ℕ)) (s : Step) (result : Result Bool ReportFault) → SameStep plan number shown s
    → Replies form before after s result
    → IfOk result (λ refused. (whole : List ℕ) → Shows whole shown → refused ≡ (step plan number whole).refused)
shown_refused form before after plan number shown s (Ok answer) same h =
    λ whole w. h.1 ∙ ap (λ (t : Step). t.refused) (same whole w)
shown_refused form before after plan number shown s (Err fault) same h = tt

pub shown_prefix : (form : Form) (before after : Option (List ℕ)) (plan : Plan) (number : ℕ)
    (shown : Option (List ℕ)) (s : Step) (result : Result Bool ReportFault) → SameStep plan number shown s
    → Replies form before after s result
    → OnErr result ((whole : List ℕ) → Shows whole shown
    → WritesPrefix before after (records_bytes form (step plan number whole).records))
shown_prefix form before after plan number shown s (Ok answer) same h = tt
shown_prefix form before after plan number shown s (Err fault) same h =
    λ whole w. subst (λ (t : Step). WritesPrefix before after (records_bytes form t.records)) (same whole w) h

pub shown_leaves : (after plan : Plan) (number : ℕ) (shown : Option (List ℕ)) (s : Step)
    (result : Result Bool ReportFault) → SameStep plan number shown s → Leaves plan after s result
    → OnOk result ((whole : List ℕ) → Shows whole shown → after ≡ (step plan number whole).plan)
shown_leaves after plan number shown s (Ok answer) same h =
    λ whole w. h ∙ ap (λ (t : Step). t.plan) (same whole w)
shown_leaves after plan number shown s (Err fault) same h = tt

-- the plan is the one after the line, whatever is answered
pub leaves_step : (before after : Plan) (line : Step) (result : Result Bool ReportFault) → after ≡ line.plan
    → Leaves before after line result
leaves_step before after line (Ok answer) e = e
leaves_step before after line (Err fault) e = inr e

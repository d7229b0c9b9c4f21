-- What a line that was read does, by what it was read as and by whether its edit is refused.
use Rattle.std.proofs.Common.{◌≡◌, ◌∙◌, ℕ, Bool, List, Option, Some, None, Result, Ok, Err, OnOk, refl, sym, ap, subst}
use Rattle.plan_spec.specs.declared.edit.Edit.{Edit}
use Rattle.plan_spec.specs.declared.why.Why.{Why}
use Rattle.plan_spec.specs.Plan.{Plan}
use Rattle.plan_spec.specs.Edits.{plan_after_edit}
use Rattle.grammar_spec.specs.declared.text_why.TextWhy.{TextWhy}
use Rattle.grammar_spec.specs.declared.script_line.Line.{Line}
use Rattle.plan_check.specs.declared.editing.EditFault.{EditFault}
use Rattle.plan_check.specs.declared.editing.EditFault.TheVariants.{Refused}
use Rattle.plan_check.specs.Faults.{IfRefused}
use Rattle.plan_text.specs.declared.faults.ReadLineFault.{ReadLineFault}
use Rattle.plan_text.specs.declared.faults.ReadLineFault.TheVariants.{Bad}
use Rattle.plan_text.specs.Readings.{ReadsLine}
use Rattle.options_spec.specs.declared.options.Form.{Form}
use Rattle.report_spec.specs.Replies.{Answer, edit_step, query_step, step_by}
use Rattle.reports.specs.declared.fault.ReportFault.{ReportFault}
use Rattle.plan_answers.specs.Answered.{Leaves, Replies}

-- the reply to an edit, by why it is refused
pub edit_replied : (form : Form) (before after : Option (List ℕ)) (plan : Plan) (number : ℕ) (edit : Edit)
    (result : Result Bool ReportFault) (why found : Option Why) → why ≡ found
    → Replies form before after (edit_step plan number edit found) result
    → Replies form before after (edit_step plan number edit why) result
edit_replied form before after plan number edit result why found e h =
    subst (λ w. Replies form before after (edit_step plan number edit w) result) (sym e) h

-- the plan after it
pub edit_made : (plan after : Plan) (number : ℕ) (edit : Edit) (why : Option Why) → why ≡ None
    → after ≡ plan_after_edit plan edit → after ≡ (edit_step plan number edit why).plan
edit_made plan after number edit why e h = subst (λ w. after ≡ (edit_step plan number edit w).plan) (sym e) h

pub edit_refused : (plan after : Plan) (number : ℕ) (edit : Edit) (why : Option Why) (w : Why) → why ≡ Some w
    → after ≡ plan → after ≡ (edit_step plan number edit why).plan
edit_refused plan after number edit why w e h = subst (λ w. after ≡ (edit_step plan number edit w).plan) (sym e) h

-- a question keeps the plan
pub question_keeps : (plan : Plan) (number : ℕ) (found : Answer) → plan ≡ (query_step plan number found).plan
question_keeps plan number (Ok rows) = refl
question_keeps plan number (Err reason) = refl

-- the reply to a line, by what it is read as
pub line_replied : (form : Form) (before after : Option (List ℕ)) (plan : Plan) (number : ℕ)
    (result : Result Bool ReportFault) (reading found : Result Line TextWhy) → reading ≡ found
    → Replies form before after (step_by plan number found) result
    → Replies form before after (step_by plan number reading) result
line_replied form before after plan number result reading found e h =
    subst (λ r. Replies form before after (step_by plan number r) result) (sym e) h

-- the plan that it leaves
pub line_leaves : (plan after : Plan) (number : ℕ) (result : Result Bool ReportFault)
    (reading found : Result Line TextWhy) → reading ≡ found → Leaves plan after (step_by plan number found) result
    → Leaves plan after (step_by plan number reading) result
line_leaves plan after number result reading found e h =
    subst (λ r. Leaves plan after (step_by plan number r) result) (sym e) h

-- ---- faults

-- why an edit is refused
pub cause_is : (fault : EditFault) (why : Why) (P : Why → Type 0) → fault ≡ Refused why → IfRefused fault P → P why
cause_is fault why P e h = subst (λ f. IfRefused f P) e h

-- why a line isn't read
pub read_badly : (reading : Result Line TextWhy) (fault : ReadLineFault) (why : TextWhy) → fault ≡ Bad why
    → ReadsLine reading (Err fault) → reading ≡ Err why
read_badly reading fault why e h = subst (λ f. ReadsLine reading (Err f)) e h

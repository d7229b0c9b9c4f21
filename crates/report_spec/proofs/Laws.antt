-- What the definitions mean, where it is short to show.
use Rattle.std.specs.Prelude.{◌≡◌, refl, ℕ, List, [], true, Option, Some, None, Result, Ok, Err}
use Rattle.plan_spec.specs.declared.edit.Edit.{Edit}
use Rattle.plan_spec.specs.declared.why.Why.{Why}
use Rattle.plan_spec.specs.Plan.{Plan}
use Rattle.plan_spec.specs.Edits.{why_not_edit}
use Rattle.grammar_spec.specs.declared.text_why.TextWhy.{TextWhy}
use Rattle.grammar_spec.specs.declared.script_line.Line.{Line}
use Rattle.grammar_spec.specs.declared.script_line.Line.TheVariants.{Blank, Edit as OfEdit, Query as OfQuery}
use Rattle.options_spec.specs.declared.options.Form.{Form}
use Rattle.grammar_spec.specs.ScriptText.{read_line_of_script}
use Rattle.report_spec.specs.Records.{records_bytes}
use Rattle.report_spec.specs.Replies.{Answer, answer, edit_step, query_step, step_by, step, replies, plan_after}
use Rattle.options_spec.specs.declared.options.Mode.{Mode}
use Rattle.report_spec.specs.Output.{mode_records, reply_bytes, output_of}

edit_keeps : (plan : Plan) (number : ℕ) (edit : Edit) (why : Option Why) → (edit_step plan number edit why).refused ≡ true → (edit_step plan number edit why).plan ≡ plan
edit_keeps plan number edit None e = cc
edit_keeps plan number edit (Some why) e = refl

query_keeps : (plan : Plan) (number : ℕ) (found : Answer) → (query_step plan number found).plan ≡ plan
query_keeps plan number (Ok rows) = refl
query_keeps plan number (Err reason) = refl

line_keeps : (plan : Plan) (number : ℕ) (line : Result Line TextWhy) → (step_by plan number line).refused ≡ true → (step_by plan number line).plan ≡ plan
line_keeps plan number (Err why) e = refl
line_keeps plan number (Ok Blank) e = refl
line_keeps plan number (Ok (OfEdit edit)) e = edit_keeps plan number edit (why_not_edit plan edit) e
line_keeps plan number (Ok (OfQuery query)) e = query_keeps plan number (answer plan query)

-- a refused line changes nothing
pub a_refused_line_keeps_the_plan : (plan : Plan) (number : ℕ) (line : List ℕ) → (step plan number line).refused ≡ true → (step plan number line).plan ≡ plan
unfolding step
a_refused_line_keeps_the_plan plan number line e = line_keeps plan number (read_line_of_script line) e

-- a question changes nothing
pub a_question_keeps_the_plan : (plan : Plan) (number : ℕ) (found : Answer) → (query_step plan number found).plan ≡ plan
a_question_keeps_the_plan = query_keeps

-- without lines the output is the mode's tables
pub no_lines_leave_the_tables : (mode : Mode) (form : Form) (plan : Plan) → output_of mode form plan [] ≡ records_bytes form (mode_records mode plan)
unfolding output_of reply_bytes replies plan_after
no_lines_leave_the_tables mode form plan = refl

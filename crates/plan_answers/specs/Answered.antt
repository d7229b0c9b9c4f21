-- What an answer says of the records that were written.
use Rattle.std.specs.Prelude.{◌≡◌, ◌⊎◌, ℕ, Bool, true, not, List, Option, Some, None, Result, Ok, Err}
use Rattle.plan_spec.specs.Plan.{Plan}
use Rattle.grammar_spec.specs.declared.script_line.Line.{Line}
use Rattle.grammar_spec.specs.declared.script_line.Line.TheVariants.{Edit as EditLine}
use Rattle.grammar_spec.specs.declared.script_line.Query.{Query}
use Rattle.grammar_spec.specs.declared.text_why.TextWhy.{TextWhy}
use Rattle.grammar_spec.specs.declared.text_why.TextWhy.TheVariants.{Long}
use Rattle.options_spec.specs.declared.options.Form.{Form}
use Rattle.report_spec.specs.Records.{records_bytes}
use Rattle.report_spec.specs.Replies.{Step, answer, query_step, step_by}
use Rattle.plan_edit.specs.Sessions.{Session, session_after}
use Rattle.plan_text.specs.Readings.{reading_of_shown}
use Rattle.dm_io.specs.Streams.{WritesPrefix, appended_to}
use Rattle.reports.specs.declared.fault.ReportFault.{ReportFault}

-- exactly these records were written, and the answer is whether they are a refusal; after a fault a prefix of them was
abbrev pub Answers : Form → Option (List ℕ) → Option (List ℕ) → List (List (List ℕ)) → Bool → Result Bool ReportFault → Type 0
Answers form before after records refused (Ok answer) =
    (after ≡ appended_to before (records_bytes form records)) × (answer ≡ refused)
Answers form before after records refused (Err fault) = WritesPrefix before after (records_bytes form records)

-- so it is with the reply of a line
abbrev pub Replies : Form → Option (List ℕ) → Option (List ℕ) → Step → Result Bool ReportFault → Type 0
Replies form before after line result = Answers form before after line.records line.refused result

-- the plan is the one after the line; after a fault it may be as before
abbrev pub Leaves : Plan → Plan → Step → Result Bool ReportFault → Type 0
Leaves before after line (Ok answer) = after ≡ line.plan
Leaves before after line (Err fault) = (after ≡ before) ⊎ (after ≡ line.plan)

-- what a line reads as that is shown without its newline and a carriage return before it, or isn't, since it is too long
abbrev pub reading : Option (List ℕ) → Result Line TextWhy
reading (Some shown) = reading_of_shown shown
reading None = Err Long

-- and what it does
abbrev pub shown_step : Plan → ℕ → Option (List ℕ) → Step
shown_step plan number shown = step_by plan number (reading shown)

-- what a line with a question does
abbrev pub question : Plan → ℕ → Query → Step
question plan number query = query_step plan number (answer plan query)

-- ---- what a session keeps

-- the number of workers stays, and the graph and the lines that the one keeps, the other keeps too
pub record Keeps (first second : Session) : Type 0 where
  pub workers : second.workers ≡ first.workers
  pub graph : first.keeps_graph ≡ true → second.keeps_graph ≡ true
  pub lines : first.keeps_lines ≡ true → second.keeps_lines ≡ true

-- what is kept after a line that is read so, at the least: an edit lets go what it leaves of none, and nothing else is let go
abbrev pub kept_after : Session → Result Line TextWhy → Session
kept_after session (Ok (EditLine edit)) = session_after session edit
kept_after session _ = session

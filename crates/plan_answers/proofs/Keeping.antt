-- What a session still keeps after a line or a mode.
use Rattle.std.proofs.Common.{◌≡◌, ◌&&◌, Bool, true, false, Result, Ok, Err, refl, sym, subst}
use Rattle.plan_spec.specs.declared.edit.Edit.{Edit}
use Rattle.grammar_spec.specs.declared.text_why.TextWhy.{TextWhy}
use Rattle.grammar_spec.specs.declared.script_line.Line.{Line}
use Rattle.grammar_spec.specs.declared.script_line.Line.TheVariants.{Blank, Edit as EditLine, Query as QueryLine}
use Rattle.plan_edit.specs.Sessions.{Session, session_after, with_graph, with_lines}
use Rattle.plan_answers.specs.Answered.{Keeps, kept_after}

pub keeps_itself : (session : Session) → Keeps session session
keeps_itself session = record { workers = refl; graph = λ h. h; lines = λ h. h }

pub keeps_same : (first second : Session) → second ≡ first → Keeps first second
keeps_same first second e = subst (Keeps first) (sym e) (keeps_itself first)

pub keeps_with_graph : (first second : Session) → second ≡ with_graph first → Keeps first second
keeps_with_graph first second e =
    subst (Keeps first) (sym e) (record { workers = refl; graph = λ h. refl; lines = λ h. h })

pub keeps_with_lines : (first second : Session) → second ≡ with_lines first → Keeps first second
keeps_with_lines first second e =
    subst (Keeps first) (sym e) (record { workers = refl; graph = λ h. h; lines = λ h. refl })

-- ---- edits

left_of : (a b : Bool) → (a && b) ≡ true → a ≡ true
left_of true b e = refl
left_of false b e = e

-- a session before an edit keeps all that the edit leaves
pub keeps_before : (session : Session) (edit : Edit) → Keeps (session_after session edit) session
keeps_before session edit = record {
  workers = refl;
  graph = λ h. left_of session.keeps_graph _ h;
  lines = λ h. left_of session.keeps_lines _ h;
}

pub keeps_unmade : (first second : Session) (edit : Edit) → second ≡ first → Keeps (session_after first edit) second
keeps_unmade first second edit e = subst (Keeps (session_after first edit)) (sym e) (keeps_before first edit)

-- ---- lines

pub keeps_unread : (session : Session) (reading : Result Line TextWhy) → Keeps (kept_after session reading) session
keeps_unread session (Ok Blank) = keeps_itself session
keeps_unread session (Ok (EditLine edit)) = keeps_before session edit
keeps_unread session (Ok (QueryLine query)) = keeps_itself session
keeps_unread session (Err why) = keeps_itself session

pub keeps_read : (first second : Session) (reading found : Result Line TextWhy) → reading ≡ found
    → Keeps (kept_after first found) second → Keeps (kept_after first reading) second
keeps_read first second reading found e k = subst (λ r. Keeps (kept_after first r) second) (sym e) k

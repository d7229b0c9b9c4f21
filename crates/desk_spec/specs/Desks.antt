-- A desk: a plan with its history, and watchers that are told of each change; and what a line does to it.
use Rattle.std.specs.Prelude.{ℕ, ◌+◌, ◌&&◌, true, false, List, [], ◌∷◌, ◌++◌, length, take, drop, map, get_or, codes, Option, Some, None, Result, Ok, Err, ℤ, pos, int_le, nat_lt, nat_abs, if◌then◌else◌}
use Rattle.std.specs.Fmt.{decimal}
use Rattle.plan_spec.specs.declared.edit.Edit.{Edit}
use Rattle.plan_spec.specs.declared.why.Why.{Why}
use Rattle.plan_spec.specs.Edits.{why_not_edit}
use Rattle.grammar_spec.specs.declared.text_why.TextWhy.{TextWhy}
use Rattle.options_spec.specs.declared.options.Form.TheVariants.{Text}
use Rattle.report_spec.specs.Records.{records_bytes, table}
use Rattle.report_spec.specs.Replies.{ok_record, text_why_word, why_words}
use Rattle.report_spec.specs.Tables.{plan_table_of}
use Rattle.script_loop.specs.Steps.{LineStep}
use Rattle.plan_undo.specs.History.{History, edited, undone, redone}
use Rattle.plan_watch.specs.declared.note.Note.{Note}
use Rattle.plan_watch.specs.declared.note.NoteKind.{NoteKind}
use Rattle.plan_watch.specs.declared.note.NoteKind.TheVariants.{Add as AddKind, Remove as RemoveKind, Move as MoveKind, AddScreen as AddScreenKind, RemoveScreen as RemoveScreenKind, AddRoute as AddRouteKind, RemoveRoute as RemoveRouteKind, Undo as UndoKind, Redo as RedoKind}
use Rattle.plan_watch.specs.Notes.{keep_each, note_of}
use Rattle.desk_spec.specs.declared.line.DeskLine.{DeskLine}
use Rattle.desk_spec.specs.declared.line.DeskLine.TheVariants.{Blank, Edit as EditLine, Undo, Redo, ShowPlan, ShowWatch, Unwatch}
use Rattle.desk_spec.specs.declared.reason.DeskReason.{DeskReason}
use Rattle.desk_spec.specs.declared.reason.DeskReason.TheVariants.{Text as TextReason, Edit as EditReason, Nothing, NoWatch}

-- the plan now with what can be undone and redone; and of each watcher how many notes it keeps, or none where it keeps
-- all, and those that it keeps now
pub record Desk : Type 0 where
  pub history : History
  pub rooms : List (Option ℕ)
  pub lists : List (List Note)

-- this history, and watchers with these rooms and lists
abbrev pub desk : History → List (Option ℕ) → List (List Note) → Desk
desk history rooms lists = record { history = history; rooms = rooms; lists = lists }

-- ---- replies

-- why a line is refused: a word, and where an edit is refused the name or the limit that it is about
abbrev pub desk_reason_words : DeskReason → List (List ℕ)
desk_reason_words (TextReason why) = text_why_word why ∷ []
desk_reason_words (EditReason why) = why_words why
desk_reason_words Nothing = codes "nothing" ∷ []
desk_reason_words NoWatch = codes "nowatch" ∷ []

-- refused N WHY
abbrev pub refused_line : ℕ → DeskReason → List (List ℕ)
refused_line number reason = codes "refused" ∷ decimal number ∷ desk_reason_words reason

-- a line that is done, which leaves this desk: its reply is `ok N` and these records
abbrev pub done : Desk → ℕ → List (List (List ℕ)) → LineStep Desk
done after number records =
    record { state = after; reply = records_bytes Text (ok_record number ∷ records); refused = false }

-- a refused line, which leaves all as it was: its reply is one record
abbrev pub refusal : Desk → ℕ → DeskReason → LineStep Desk
refusal d number reason =
    record { state = d; reply = records_bytes Text (refused_line number reason ∷ []); refused = true }

-- ---- changes

-- a change was made: this is the history then, and each watcher was told the note
abbrev pub told : Desk → History → Note → Desk
told d history note = desk history d.rooms (keep_each d.rooms d.lists note)

-- an edit, where nothing refuses it, is made and can be undone
abbrev pub edit_line : Desk → ℕ → Edit → Option Why → LineStep Desk
edit_line d number edit None = done (told d (edited d.history edit) (note_of number edit)) number []
edit_line d number edit (Some why) = refusal d number (EditReason why)

-- a step through the history of a kind, by the name of what changed and the history then; refused where there is no
-- step
abbrev pub history_line : Desk → ℕ → NoteKind → Option (List ℕ × History) → LineStep Desk
history_line d number kind None = refusal d number Nothing
history_line d number kind (Some step) =
    done (told d step.1 (record { line = number; kind = kind; name = step.0 })) number []

-- ---- watchers

-- the place of the watcher of a number among so many, or none where there is no such watcher
abbrev pub watcher_at : ℕ → ℤ → Option ℕ
watcher_at count k = if int_le (pos 0) k && nat_lt (nat_abs k) count then Some (nat_abs k) else None

-- the kind of a change, by the word that begins its line in a script
abbrev pub kind_word : NoteKind → List ℕ
kind_word AddKind = codes "add"
kind_word RemoveKind = codes "remove"
kind_word MoveKind = codes "move"
kind_word AddScreenKind = codes "addscreen"
kind_word RemoveScreenKind = codes "removescreen"
kind_word AddRouteKind = codes "addroute"
kind_word RemoveRouteKind = codes "removeroute"
kind_word UndoKind = codes "undo"
kind_word RedoKind = codes "redo"

-- line, kind, name
abbrev pub note_row : Note → List (List ℕ)
note_row note = decimal note.line ∷ kind_word note.kind ∷ note.name ∷ []

-- the notes: line, kind, name
unfoldable pub watch_table : List Note → List (List (List ℕ))
watch_table notes = table (codes "watch") (map note_row notes)

-- the table of the notes that a watcher keeps
abbrev pub shown_watch : Desk → ℕ → Option ℕ → LineStep Desk
shown_watch d number None = refusal d number NoWatch
shown_watch d number (Some k) = done d number (watch_table (get_or d.lists k []))

-- the list without its element at a place
abbrev pub without : {X : Type 0} → ℕ → List X → List X
without k xs = take k xs ++ drop (k + 1) xs

-- a watcher goes, and those after it close up
abbrev pub without_watcher : Desk → ℕ → Option ℕ → LineStep Desk
without_watcher d number None = refusal d number NoWatch
without_watcher d number (Some k) = done (desk d.history (without k d.rooms) (without k d.lists)) number []

-- ---- a line

-- what a line that was read does
unfoldable pub desk_step : Desk → ℕ → Result DeskLine TextWhy → LineStep Desk
desk_step d number (Err why) = refusal d number (TextReason why)
desk_step d number (Ok Blank) = record { state = d; reply = []; refused = false }
desk_step d number (Ok (EditLine edit)) = edit_line d number edit (why_not_edit d.history.now edit)
desk_step d number (Ok Undo) = history_line d number UndoKind (undone d.history)
desk_step d number (Ok Redo) = history_line d number RedoKind (redone d.history)
desk_step d number (Ok ShowPlan) = done d number (plan_table_of d.history.now)
desk_step d number (Ok (ShowWatch k)) = shown_watch d number (watcher_at (length d.lists) k)
desk_step d number (Ok (Unwatch k)) = without_watcher d number (watcher_at (length d.lists) k)

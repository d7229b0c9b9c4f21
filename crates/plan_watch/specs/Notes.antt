-- Notes of edits, and which of them are kept.
use Rattle.std.specs.Prelude.{ℕ, List, [], ◌∷◌, ◌++◌, Option, Some, None}
use Rattle.circular_buffer.specs.Buffer.{keep_last}
use Rattle.plan_spec.specs.declared.edit.Edit.{Edit}
use Rattle.plan_spec.specs.declared.edit.Edit.TheVariants.{Add as AddEdit, Remove as RemoveEdit, Move as MoveEdit, AddScreen as AddScreenEdit, RemoveScreen as RemoveScreenEdit, AddRoute as AddRouteEdit, RemoveRoute as RemoveRouteEdit}
use Rattle.plan_back.specs.Backs.{edit_name}
use Rattle.plan_watch.specs.declared.note.Note.{Note}
use Rattle.plan_watch.specs.declared.note.NoteKind.{NoteKind}
use Rattle.plan_watch.specs.declared.note.NoteKind.TheVariants.{Add, Remove, Move, AddScreen, RemoveScreen, AddRoute, RemoveRoute}

-- the kind of an edit
abbrev pub kind_of : Edit → NoteKind
kind_of (AddEdit name points) = Add
kind_of (RemoveEdit name) = Remove
kind_of (MoveEdit name dx dy) = Move
kind_of (AddScreenEdit name from to) = AddScreen
kind_of (RemoveScreenEdit name) = RemoveScreen
kind_of (AddRouteEdit name from to) = AddRoute
kind_of (RemoveRouteEdit name) = RemoveRoute

-- the note of an edit in a line of a script: its kind, and the name of what it changes
abbrev pub note_of : ℕ → Edit → Note
note_of line edit = record { line = line; kind = kind_of edit; name = edit_name edit }

-- the last `room` of the list followed by the note, or all of them without a room
abbrev pub keep : Option ℕ → List Note → Note → List Note
keep None list note = list ++ note ∷ []
keep (Some room) list note = keep_last room (list ++ note ∷ [])

-- each list with the note kept, by its own room
abbrev pub keep_each : List (Option ℕ) → List (List Note) → Note → List (List Note)
keep_each (room ∷ rooms) (list ∷ lists) note = keep room list note ∷ keep_each rooms lists note
keep_each rooms lists note = []

-- The whole output of a desk: the replies to the lines of a script, and then the plan that they leave.
use Rattle.std.specs.Prelude.{ℕ, Bool, List, ◌++◌, Option}
use Rattle.options_spec.specs.declared.options.Form.TheVariants.{Text}
use Rattle.plan_spec.specs.Plan.{Plan}
use Rattle.report_spec.specs.Records.{records_bytes}
use Rattle.report_spec.specs.Tables.{plan_table_of}
use Rattle.script_loop.specs.Steps.{LineStep, has_refusal_by, replies_by, state_after}
use Rattle.plan_undo.specs.History.{begun}
use Rattle.plan_watch.specs.declared.note.Note.{Note}
use Rattle.desk_spec.specs.declared.depth.TheConstants.{DEPTH}
use Rattle.desk_spec.specs.DeskText.{read_line_of_desk}
use Rattle.desk_spec.specs.Desks.{Desk, desk, desk_step}

-- a desk with this plan, nothing to undo or redo, and watchers with these rooms and lists
abbrev pub desk_of : Plan → List (Option ℕ) → List (List Note) → Desk
desk_of plan rooms lists = desk (begun DEPTH plan) rooms lists

-- what the line of this number does, as it stands before its newline
abbrev pub desk_line : Desk → ℕ → List ℕ → LineStep Desk
desk_line d number line = desk_step d number (read_line_of_desk line)

-- the replies to the lines of a script
unfoldable pub desk_replies : Desk → List (List ℕ) → List ℕ
desk_replies d lines = replies_by desk_line d 1 lines

-- the desk that they leave
unfoldable pub desk_after : Desk → List (List ℕ) → Desk
desk_after d lines = state_after desk_line d 1 lines

-- one of them is refused
unfoldable pub desk_refuses : Desk → List (List ℕ) → Bool
desk_refuses d lines = has_refusal_by desk_line d 1 lines

-- the replies to the lines of the script, and then the table of the plan that they leave
unfoldable pub desk_output : Desk → List (List ℕ) → List ℕ
desk_output d lines = desk_replies d lines ++ records_bytes Text (plan_table_of (desk_after d lines).history.now)

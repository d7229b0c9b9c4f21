-- What is answered of a line of a script at a desk.
use Rattle.std.specs.Prelude.{◌≡◌, ⊤, ℕ, List, Bool, true, false, Result, Ok, Err, if◌then◌else◌}
use Rattle.text_spec.specs.Lines.{is_long}
use Rattle.plan_spec.specs.declared.edit.Edit.TheVariants.{Add}
use Rattle.plan_spec.specs.Edits.{HasShift}
use Rattle.grammar_spec.specs.declared.text_why.TextWhy.{TextWhy}
use Rattle.grammar_spec.specs.declared.text_why.TextWhy.TheVariants.{Long}
use Rattle.plan_text.specs.declared.faults.ReadLineFault.{ReadLineFault}
use Rattle.plan_text.specs.declared.faults.ReadLineFault.TheVariants as line_fault
use Rattle.desk_spec.specs.declared.line.DeskLine.{DeskLine}
use Rattle.desk_spec.specs.declared.line.DeskLine.TheVariants.{Edit}
use Rattle.desk_spec.specs.DeskText.{read_desk_line}

-- what was read is an obstacle to be added
abbrev pub is_addition : Result DeskLine TextWhy → Bool
is_addition (Ok (Edit (Add name points))) = true
is_addition _ = false

-- the reading of a line; that there is no memory is answered in place of an obstacle to be added, and of nothing else
abbrev pub ReadsDeskLine : Result DeskLine TextWhy → Result DeskLine ReadLineFault → Type 0
ReadsDeskLine reading (Ok line) = reading ≡ Ok line
ReadsDeskLine reading (Err (line_fault.Bad why)) = reading ≡ Err why
ReadsDeskLine reading (Err line_fault.NoMemory) = is_addition reading ≡ true

-- how a line is read that is given without its newline and its carriage return
abbrev pub desk_reading_of_shown : List ℕ → Result DeskLine TextWhy
desk_reading_of_shown shown = if is_long shown then Err Long else read_desk_line shown

-- where the line moves an obstacle, its shift is at most `MAX_SHIFT` in each coordinate
abbrev pub HasShiftInDeskLine : DeskLine → Type 0
HasShiftInDeskLine (Edit edit) = HasShift edit
HasShiftInDeskLine _ = ⊤

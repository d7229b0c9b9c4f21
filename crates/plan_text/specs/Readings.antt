-- What is answered of a plan and of a line of a script.
use Rattle.std.specs.Prelude.{◌≡◌, ⊤, ℕ, List, Bool, true, false, Result, Ok, Err, if◌then◌else◌}
use Rattle.text_spec.specs.Lines.{is_long, without_return}
use Rattle.plan_spec.specs.declared.item.Item.{Item}
use Rattle.plan_spec.specs.declared.edit.Edit.TheVariants.{Add}
use Rattle.plan_spec.specs.Edits.{HasShift}
use Rattle.grammar_spec.specs.declared.script_line.Line.{Line}
use Rattle.grammar_spec.specs.declared.script_line.Line.TheVariants.{Blank, Edit, Query}
use Rattle.grammar_spec.specs.declared.text_why.TextWhy.{TextWhy}
use Rattle.grammar_spec.specs.declared.text_why.TextWhy.TheVariants.{Long}
use Rattle.grammar_spec.specs.ScriptText.{read_script_line}
use Rattle.grammar_spec.specs.PlanText.{read_plan_text, items_read, numbers_read}
use Rattle.plan_text.specs.declared.faults.ReadLineFault.{ReadLineFault}
use Rattle.plan_text.specs.declared.faults.ReadLineFault.TheVariants as line_fault
use Rattle.plan_text.specs.declared.faults.ReadPlanFault.{ReadPlanFault}
use Rattle.plan_text.specs.declared.faults.ReadPlanFault.TheVariants as plan_fault
use Rattle.plan_text.specs.declared.plans.PlanText.{PlanText}

-- the items with the numbers of their lines, or the first line outside the grammar and why it is; where there is no
-- memory nothing is said
abbrev pub ReadsPlan : List ℕ → Result PlanText ReadPlanFault → Type 0
ReadsPlan bytes (Ok text) =
    (items : List (ℕ × Item)) × (read_plan_text bytes ≡ Ok items) × (text.plan.items ≡ items_read items)
    × (text.lines ≡ numbers_read bytes items)
ReadsPlan bytes (Err (plan_fault.Bad line why)) = read_plan_text bytes ≡ Err (line, why)
ReadsPlan bytes (Err plan_fault.NoMemory) = Unit {0}

-- what was read is an obstacle to be added
abbrev pub is_add : Result Line TextWhy → Bool
is_add (Ok (Edit (Add name points))) = true
is_add _ = false

-- the reading of a line of a script; that there is no memory is answered in place of an obstacle to be added, and of
-- nothing else
abbrev pub ReadsLine : Result Line TextWhy → Result Line ReadLineFault → Type 0
ReadsLine reading (Ok line) = reading ≡ Ok line
ReadsLine reading (Err (line_fault.Bad why)) = reading ≡ Err why
ReadsLine reading (Err line_fault.NoMemory) = is_add reading ≡ true

-- how a line of a script is read that is given without its newline and its carriage return
abbrev pub reading_of_shown : List ℕ → Result Line TextWhy
reading_of_shown shown = if is_long shown then Err Long else read_script_line shown

-- what is shown of a line of a script: all but its carriage return, where the line isn't too long
pub record IsShown (line shown : List ℕ) : Type 0 where
  pub short : is_long line ≡ false
  pub bytes : without_return line ≡ shown

-- where the line moves an obstacle, its shift is at most `MAX_SHIFT` in each coordinate
abbrev pub HasShiftInLine : Line → Type 0
HasShiftInLine Blank = ⊤
HasShiftInLine (Edit edit) = HasShift edit
HasShiftInLine (Query query) = ⊤

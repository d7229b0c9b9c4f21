-- The plan that a file holds, or the line at which it is refused.
use Rattle.std.specs.Prelude.{ℕ, List, Result, Ok, Err, get_or}
use Rattle.plan_spec.specs.declared.why.Why.{Why}
use Rattle.plan_spec.specs.Plan.{Plan}
use Rattle.plan_spec.specs.Refusals.{check_of}
use Rattle.report_spec.specs.declared.reason.Reason.{Reason}
use Rattle.report_spec.specs.declared.reason.Reason.TheVariants.{Text as TextReason, Edit as EditReason}
use Rattle.grammar_spec.specs.PlanText.{PlanReading, read_plan_text, items_read, numbers_read}

-- a plan, or the number of the line that is at fault and why it is
abbrev pub PlanFound : Type 0
PlanFound = Result Plan (ℕ × Reason)

-- the plan that items make, or the line of the item that is refused; where there are no items at all, the line after
-- the last is at fault
abbrev pub plan_or_fault : List ℕ → Result Plan (ℕ × Why) → PlanFound
plan_or_fault numbers (Ok plan) = Ok plan
plan_or_fault numbers (Err refused) = Err (get_or numbers refused.0 0, EditReason refused.1)

-- the plan of a text that was read
abbrev pub plan_read : List ℕ → PlanReading → PlanFound
plan_read bytes (Err fault) = Err (fault.0, TextReason fault.1)
plan_read bytes (Ok items) = plan_or_fault (numbers_read bytes items) (check_of (items_read items))

-- the whole text is read first: the first line outside the grammar is told, and otherwise the first item that is
-- refused. Bytes of any number are read here: a file of more than `MAX_PLAN_BYTES` is refused before its text is read
unfoldable pub plan_in_file : List ℕ → PlanFound
plan_in_file bytes = plan_read bytes (read_plan_text bytes)

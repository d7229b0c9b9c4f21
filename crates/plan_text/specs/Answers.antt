-- What the parts of a line answer.
use Rattle.std.specs.Prelude.{◌≡◌, ℕ, Result, Ok, Err, IsOk}
use Rattle.grammar_spec.specs.declared.text_why.TextWhy.{TextWhy}
use Rattle.plan_text.specs.declared.faults.ReadLineFault.{ReadLineFault}
use Rattle.plan_text.specs.declared.faults.ReadLineFault.TheVariants as line_fault
use Rattle.plan_text.specs.declared.faults.ReadPlanFault.{ReadPlanFault}
use Rattle.plan_text.specs.declared.faults.ReadPlanFault.TheVariants as plan_fault

-- the reading itself; that there is no memory is answered in place of what was read, and never in place of a refusal
abbrev pub Answers : {A : Type 0} → Result A TextWhy → Result A ReadLineFault → Type 0
Answers reading (Ok x) = reading ≡ Ok x
Answers reading (Err (line_fault.Bad why)) = reading ≡ Err why
Answers reading (Err line_fault.NoMemory) = IsOk reading

-- the fault of a line, with its number
abbrev pub fault_at : ℕ → ReadLineFault → ReadPlanFault
fault_at line (line_fault.Bad why) = plan_fault.Bad line why
fault_at line line_fault.NoMemory = plan_fault.NoMemory

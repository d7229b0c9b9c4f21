-- What is taken of the plan's file, and the plan that its bytes hold. Each word speaks of what is known of the file's bytes
-- and of what is left of them.
use Rattle.std.specs.Prelude.{◌≡◌, ◌⊎◌, ◌≤◌, ◌+◌, ℕ, List, [], length, Option, Result, Ok, Err}
use Rattle.dm_io.specs.Streams.{IsIfKnown, IsPrefix, TakesAtMost}
use Rattle.grammar_spec.specs.declared.limits.TheConstants.{MAX_PLAN_BYTES}
use Rattle.plan_spec.specs.Plan.{Plan}
use Rattle.report_spec.specs.declared.reason.Reason.{Reason}
use Rattle.report_spec.specs.PlanFile.{PlanFound, plan_in_file}
use Rattle.plan_file.specs.declared.reading.PlanFault.{PlanFault}
use Rattle.plan_file.specs.declared.reading.PlanFault.TheVariants.{Refused, Unread, NoMemory, TooLong}

-- ---- the bytes of a plan's file

-- they keep the limit of a plan's file and hold an accepted plan
pub record HoldsPlan (bytes : List ℕ) (plan : Plan) : Type 0 where
  pub short : length bytes ≤ MAX_PLAN_BYTES
  pub held : plan_in_file bytes ≡ Ok plan

-- they keep the limit and hold no accepted plan: this line is at fault, for this reason
pub record IsRefused (bytes : List ℕ) (line : ℕ) (reason : Reason) : Type 0 where
  pub short : length bytes ≤ MAX_PLAN_BYTES
  pub refused : plan_in_file bytes ≡ Err (line, reason)

-- ---- what is taken of it

-- it was read to its end, and these are all its bytes
pub record IsWhole (known left : Option (List ℕ)) (bytes : List ℕ) : Type 0 where
  pub taken : IsPrefix known bytes left
  pub ended : IsIfKnown [] left

-- it was read to its end, and holds this accepted plan
abbrev pub ReadsPlan : Option (List ℕ) → Option (List ℕ) → Plan → Type 0
ReadsPlan known left plan = (bytes : List ℕ) × IsWhole known left bytes × HoldsPlan bytes plan

-- it was read to its end, and is refused on this line for this reason
abbrev pub ReadsRefused : Option (List ℕ) → Option (List ℕ) → ℕ → Reason → Type 0
ReadsRefused known left line reason = (bytes : List ℕ) × IsWhole known left bytes × IsRefused bytes line reason

-- it wasn't opened, or at most so many of its bytes were taken; before it stands what was left of the file before it
abbrev pub TakesPart : ℕ → Option (List ℕ) → Option (List ℕ) → Option (List ℕ) → Type 0
TakesPart most before known left = (left ≡ before) ⊎ TakesAtMost most known left

-- exactly one byte more than the limit was taken
abbrev pub TakesTooMany : Option (List ℕ) → Option (List ℕ) → Type 0
TakesTooMany known left = (prefix : List ℕ) × (length prefix ≡ MAX_PLAN_BYTES + 1) × IsPrefix known prefix left

-- ---- by what reading a plan answers

-- the line and the reason are those for which the bytes hold no plan; of other faults nothing is said
abbrev pub IsCause : PlanFound → PlanFault → Type 0
IsCause found (Refused line reason) = found ≡ Err (line, reason)
IsCause found Unread = Unit {0}
IsCause found NoMemory = Unit {0}
IsCause found TooLong = Unit {0}

-- what was taken of the file, and what its bytes hold
abbrev pub TakesFor : Option (List ℕ) → Option (List ℕ) → Option (List ℕ) → Result Plan PlanFault → Type 0
TakesFor before known left (Ok plan) = ReadsPlan known left plan
TakesFor before known left (Err (Refused line reason)) = ReadsRefused known left line reason
TakesFor before known left (Err Unread) = TakesPart MAX_PLAN_BYTES before known left
TakesFor before known left (Err NoMemory) = TakesPart (MAX_PLAN_BYTES + 1) before known left
TakesFor before known left (Err TooLong) = TakesTooMany known left

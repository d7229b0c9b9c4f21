-- The statuses: their numbers, and what each says on standard error.
use Rattle.std.specs.Prelude.{ℕ, List, Option, Some, None, codes}
use Rattle.report_spec.specs.declared.reason.Reason.{Reason}
use Rattle.report_spec.specs.Messages.{message_by, plan_message_by}
use Rattle.plan_file.specs.Said.{IsSaid, IsSilent, SaysWhy}
use Rattle.walk_app.specs.declared.status.WalkStatus.{WalkStatus}
use Rattle.walk_app.specs.declared.status.WalkStatus.TheVariants.{Done, BadWords, BadPlan, ReadFault, WriteFault, NoMemory, TooLong, NoOpen}

-- the number that the program ends with
abbrev pub code_of : WalkStatus → ℕ
code_of Done = 0
code_of BadWords = 2
code_of BadPlan = 3
code_of ReadFault = 4
code_of WriteFault = 5
code_of NoMemory = 6
code_of TooLong = 7
code_of NoOpen = 8

-- ---- the lines on standard error, each with its newline

-- the program's name
abbrev pub program : List ℕ
program = codes "depth_walk"

-- the words ask for nothing
abbrev pub usage_message : List ℕ
usage_message = message_by program (codes "usage: depth_walk -f FILE WALKERS STEPS SEED WORKERS")

-- the file holds no plan: plan line L: WHY
abbrev pub plan_message : ℕ → Reason → List ℕ
plan_message line reason = plan_message_by program line reason

-- a call that reads failed
abbrev pub read_message : List ℕ
read_message = message_by program (codes "cannot read")

-- a call that writes failed
abbrev pub write_message : List ℕ
write_message = message_by program (codes "cannot write")

-- there is no memory
abbrev pub memory_message : List ℕ
memory_message = message_by program (codes "out of memory")

-- the plan's file has more bytes than it may
abbrev pub length_message : List ℕ
length_message = message_by program (codes "input too long")

-- the plan has no open grid point
abbrev pub no_open_message : List ℕ
no_open_message = message_by program (codes "no open point")

-- ---- what was said

-- by the status, what is known of the plan's file, what is left of it, and what was written on standard error and how often
-- that had failed, each before and after
abbrev pub Says : Option (List ℕ) → Option (List ℕ) → Option (List ℕ) → Option (List ℕ) → ℕ → ℕ → WalkStatus → Type 0
Says known left before after faults faults_after Done = IsSilent before after faults faults_after
Says known left before after faults faults_after BadWords = IsSaid before after faults faults_after usage_message
Says known left before after faults faults_after BadPlan = SaysWhy plan_message known left before after faults faults_after
Says known left before after faults faults_after ReadFault = IsSaid before after faults faults_after read_message
Says known left before after faults faults_after WriteFault = IsSaid before after faults faults_after write_message
Says known left before after faults faults_after NoMemory = IsSaid before after faults faults_after memory_message
Says known left before after faults faults_after TooLong = IsSaid before after faults faults_after length_message
Says known left before after faults faults_after NoOpen = IsSaid before after faults faults_after no_open_message

-- the line that is said of a status, where it is one and the same
abbrev pub message_of : WalkStatus → Option (List ℕ)
message_of Done = None
message_of BadWords = Some usage_message
message_of BadPlan = None
message_of ReadFault = Some read_message
message_of WriteFault = Some write_message
message_of NoMemory = Some memory_message
message_of TooLong = Some length_message
message_of NoOpen = Some no_open_message

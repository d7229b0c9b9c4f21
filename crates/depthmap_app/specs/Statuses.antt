-- The statuses: their numbers, and what each says on standard error.
use Rattle.std.specs.Prelude.{ℕ, Bool, List, Option, Some, None, if◌then◌else◌}
use Rattle.report_spec.specs.Messages.{usage_message, plan_message, read_message, write_message, memory_message, length_message}
use Rattle.plan_file.specs.Said.{IsSaid, IsSilent, SaysWhy}
use Rattle.depthmap_app.specs.declared.status.Status.{Status}
use Rattle.depthmap_app.specs.declared.status.Status.TheVariants.{Done, DoneWithRefusals, BadWords, BadPlan, ReadFault, WriteFault, NoMemory, TooLong}

-- the number that the program ends with
abbrev pub code_of : Status → ℕ
code_of Done = 0
code_of DoneWithRefusals = 1
code_of BadWords = 2
code_of BadPlan = 3
code_of ReadFault = 4
code_of WriteFault = 5
code_of NoMemory = 6
code_of TooLong = 7

-- the status of a whole output: whether a reply is `refused`
abbrev pub done_status : Bool → Status
done_status refused = if refused then DoneWithRefusals else Done

-- ---- standard error

-- by the status, what is known of the plan's file, what is left of it, and what was written on standard error and how often
-- that had failed, each before and after
abbrev pub Says : Option (List ℕ) → Option (List ℕ) → Option (List ℕ) → Option (List ℕ) → ℕ → ℕ → Status → Type 0
Says known left before after faults faults_after Done = IsSilent before after faults faults_after
Says known left before after faults faults_after DoneWithRefusals = IsSilent before after faults faults_after
Says known left before after faults faults_after BadWords = IsSaid before after faults faults_after usage_message
Says known left before after faults faults_after BadPlan = SaysWhy plan_message known left before after faults faults_after
Says known left before after faults faults_after ReadFault = IsSaid before after faults faults_after read_message
Says known left before after faults faults_after WriteFault = IsSaid before after faults faults_after write_message
Says known left before after faults faults_after NoMemory = IsSaid before after faults faults_after memory_message
Says known left before after faults faults_after TooLong = IsSaid before after faults faults_after length_message

-- the line that is said of a status, where it is one and the same
abbrev pub message_of : Status → Option (List ℕ)
message_of Done = None
message_of DoneWithRefusals = None
message_of BadWords = Some usage_message
message_of BadPlan = None
message_of ReadFault = Some read_message
message_of WriteFault = Some write_message
message_of NoMemory = Some memory_message
message_of TooLong = Some length_message

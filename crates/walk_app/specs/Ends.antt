-- How a run ends: what each status says of the plan's file, of the output and of the faults.
use Rattle.std.specs.Prelude.{◌≡◌, ◌⊎◌, ◌<◌, ◌+◌, ⊤, ℕ, List, [], ◌∷◌, length, Option, Some, None, IfSome}
use Rattle.dm_io.specs.Streams.{WritesPrefix, appended_to}
use Rattle.grammar_spec.specs.declared.limits.TheConstants.{MAX_PLAN_BYTES}
use Rattle.plane_spec.specs.declared.Point.{Point}
use Rattle.plan_spec.specs.Plan.{Plan}
use Rattle.report_spec.specs.declared.reason.Reason.{Reason}
use Rattle.sight_spec.specs.Visibility.{open_points}
use Rattle.plan_file.specs.PlanFiles.{HoldsPlan, ReadsPlan, ReadsRefused, TakesPart, TakesTooMany}
use Rattle.plan_file.specs.Streams.{Faults, OnlyFilesFailed, OnlyOutFailed, Streams, faults, streams}
use Rattle.walk_spec.specs.declared.WalkSpec.{WalkSpec}
use Rattle.walk_plan.specs.Answers.{WritesPart}
use Rattle.walk_plan.specs.PlanWalks.{walk_bytes}
use Rattle.walk_words.specs.declared.reading.WalkOptions.{WalkOptions}
use Rattle.walk_app.specs.declared.status.WalkStatus.{WalkStatus}
use Rattle.walk_app.specs.declared.status.WalkStatus.TheVariants.{Done, BadWords, BadPlan, ReadFault, WriteFault, NoMemory, TooLong, NoOpen}

-- ---- a run without a script

-- how often the files and the output failed
abbrev pub counts_of : ℕ → ℕ → Faults
counts_of files out = faults files 0 out

-- what is left of the file that was opened last, what was written, and how often the files and the output failed; of a
-- script nothing is told
abbrev pub streams_of : Option (List ℕ) → Option (List ℕ) → ℕ → ℕ → Streams
streams_of file out files outs = streams file None out (counts_of files outs)

-- ---- once a plan is held

-- by the status: where there is an open point the whole table was written, or a prefix of it; where there is none, nothing
abbrev pub EndsOverPlan : Plan → WalkSpec → Streams → Streams → WalkStatus → Type 0
EndsOverPlan plan spec old new Done =
    (0 < length (open_points plan)) × (new.out ≡ appended_to old.out (walk_bytes plan spec)) × (new.faults ≡ old.faults)
EndsOverPlan plan spec old new WriteFault =
    (0 < length (open_points plan)) × WritesPrefix old.out new.out (walk_bytes plan spec) × OnlyOutFailed old.faults new.faults
EndsOverPlan plan spec old new NoMemory = WritesPart plan spec old.out new.out × (new.faults ≡ old.faults)
EndsOverPlan plan spec old new NoOpen =
    (open_points plan ≡ []) × (new.out ≡ old.out) × (new.faults ≡ old.faults)
EndsOverPlan plan spec old new _ = ⊥

-- ---- a run that comes to no plan

-- by the status, and by what is known of the file's bytes: nothing was written
abbrev pub EndsWithoutPlan : Option (List ℕ) → Streams → Streams → WalkStatus → Type 0
EndsWithoutPlan known old new BadPlan =
    ((line : ℕ) × (reason : Reason) × ReadsRefused known new.file line reason)
    × (new.out ≡ old.out) × (new.faults ≡ old.faults)
EndsWithoutPlan known old new ReadFault =
    TakesPart MAX_PLAN_BYTES old.file known new.file × (new.out ≡ old.out) × OnlyFilesFailed old.faults new.faults
EndsWithoutPlan known old new NoMemory =
    TakesPart (MAX_PLAN_BYTES + 1) old.file known new.file × (new.out ≡ old.out) × (new.faults ≡ old.faults)
EndsWithoutPlan known old new TooLong =
    TakesTooMany known new.file × (new.out ≡ old.out) × (new.faults ≡ old.faults)
EndsWithoutPlan known old new _ = ⊥

-- ---- by what is asked for

-- the run comes to no plan; or the file was read to its end and holds a plan, over which walkers go
abbrev pub EndsOfFile : Option (List ℕ) → WalkSpec → Streams → Streams → WalkStatus → Type 0
EndsOfFile known spec old new status =
    EndsWithoutPlan known old new status
    ⊎ ((plan : Plan) × ReadsPlan known new.file plan × EndsOverPlan plan spec old new status)

-- words that ask for nothing leave all as before
abbrev pub EndsWithoutOptions : Streams → Streams → WalkStatus → Type 0
EndsWithoutOptions old new status = (status ≡ BadWords) × (new ≡ old)

-- by the options, and by what each file holds
abbrev pub Ends : Option WalkOptions → (List ℕ → Option (List ℕ)) → Streams → Streams → WalkStatus → Type 0
Ends None holds old new status = EndsWithoutOptions old new status
Ends (Some options) holds old new status = EndsOfFile (holds options.file) options.spec old new status

-- ---- where all is done

-- where the bytes of the file are known, they hold a plan of which P holds
abbrev pub OfPlan : Option (List ℕ) → (Plan → Type 0) → Type 0
OfPlan known P = IfSome known (λ bytes. (plan : Plan) × HoldsPlan bytes plan × P plan)

-- by the status: with 0 and 8
abbrev pub HasOutput : Option WalkOptions → (List ℕ → Option (List ℕ)) → Streams → Streams → WalkStatus → Type 0
HasOutput (Some options) holds old new Done =
    OfPlan (holds options.file) (λ plan. EndsOverPlan plan options.spec old new Done)
HasOutput (Some options) holds old new NoOpen =
    OfPlan (holds options.file) (λ plan. EndsOverPlan plan options.spec old new NoOpen)
HasOutput options holds old new _ = ⊤

-- ---- where nothing fails and the limit is kept

-- how a run ends over a plan with these open points
abbrev pub walked_status : List (ℕ × Point) → WalkStatus
walked_status [] = NoOpen
walked_status (first ∷ others) = Done

-- that of the plan's open points, or there was no memory
abbrev pub IsDone : Plan → WalkStatus → Type 0
IsDone plan status = (status ≡ walked_status (open_points plan)) ⊎ (status ≡ NoMemory)

-- where the file's bytes are known, they hold a plan and keep the limit, and nothing failed
abbrev pub IsComplete : Option WalkOptions → (List ℕ → Option (List ℕ)) → Streams → Streams → WalkStatus → Type 0
IsComplete None holds old new status = status ≡ BadWords
IsComplete (Some options) holds old new status =
    IfSome (holds options.file) (λ bytes.
    (plan : Plan) → HoldsPlan bytes plan → new.faults ≡ old.faults → IsDone plan status)

-- How a run ends: what each status says of the plan's file, of the script, of the output and of the faults.
use Rattle.std.specs.Prelude.{◌≡◌, ◌⊎◌, ◌≤◌, ◌+◌, ⊤, ℕ, Bool, true, false, List, [], length, take, Option, Some, None, IfSome}
use Rattle.text_spec.specs.Lines.{lines_of, whole_lines_of}
use Rattle.dm_io.specs.Streams.{IsIfKnown, IsPrefix, WritesPrefix, appended_to}
use Rattle.grammar_spec.specs.declared.limits.TheConstants.{MAX_PLAN_BYTES, MAX_SCRIPT_BYTES}
use Rattle.plan_spec.specs.Plan.{Plan}
use Rattle.options_spec.specs.declared.options.Form.{Form}
use Rattle.options_spec.specs.declared.options.Job.{Job}
use Rattle.options_spec.specs.declared.options.Job.TheVariants.{Analyse, Trial}
use Rattle.options_spec.specs.declared.options.Mode.{Mode}
use Rattle.options_spec.specs.declared.options.Options.{Options}
use Rattle.report_spec.specs.declared.reason.Reason.{Reason}
use Rattle.report_spec.specs.Output.{is_refused_by, output_by, output_is_refused, output_of, reply_bytes, trial_output}
use Rattle.plan_file.specs.PlanFiles.{HoldsPlan, ReadsPlan, ReadsRefused, TakesPart, TakesTooMany}
use Rattle.depthmap_app.specs.Statuses.{done_status}
use Rattle.plan_file.specs.Streams.{OnlyFilesFailed, OnlyOutFailed, OnlyScriptFailed, Streams}
use Rattle.depthmap_app.specs.declared.status.Status.{Status}
use Rattle.depthmap_app.specs.declared.status.Status.TheVariants.{Done, DoneWithRefusals, BadWords, BadPlan, ReadFault, WriteFault, NoMemory, TooLong}

-- ---- an analysis, once a plan is held

-- the script was read to its end, and the whole output over all its lines was written: the replies, and then the mode's
-- tables over the plan that they leave; whether one of them is `refused`
pub record IsAnswered (mode : Mode) (form : Form) (plan : Plan) (old new : Streams) (refused : Bool) : Type 0 where
  pub text : List ℕ
  pub taken : IsPrefix old.script text new.script
  pub ended : IsIfKnown [] new.script
  pub within : length text ≤ MAX_SCRIPT_BYTES
  pub written : new.out ≡ appended_to old.out (output_of mode form plan (lines_of text))
  pub refusal : output_is_refused mode plan (lines_of text) ≡ refused
  pub faults : new.faults ≡ old.faults

-- the script failed, and exactly the replies to the whole lines of what was taken of it were written
pub record ScriptUnread (form : Form) (plan : Plan) (old new : Streams) : Type 0 where
  pub bytes : List ℕ
  pub taken : IsPrefix old.script bytes new.script
  pub within : length bytes ≤ MAX_SCRIPT_BYTES
  pub written : new.out ≡ appended_to old.out (reply_bytes form plan (whole_lines_of bytes))
  pub faults : OnlyScriptFailed old.faults new.faults

-- one byte past the limit was taken of the script, and exactly the replies to the lines whose newline is within the limit
-- were written
pub record ScriptTooLong (form : Form) (plan : Plan) (old new : Streams) : Type 0 where
  pub bytes : List ℕ
  pub taken : IsPrefix old.script bytes new.script
  pub beyond : length bytes ≡ MAX_SCRIPT_BYTES + 1
  pub written : new.out ≡ appended_to old.out (reply_bytes form plan (whole_lines_of (take MAX_SCRIPT_BYTES bytes)))
  pub faults : new.faults ≡ old.faults

-- a prefix was written of the replies to the whole lines of what was taken of the script; or nothing is left of it, and a
-- prefix of the whole output over all its lines was
pub record IsAnsweredInPart (mode : Mode) (form : Form) (plan : Plan) (old new : Streams) : Type 0 where
  pub bytes : List ℕ
  pub taken : IsPrefix old.script bytes new.script
  pub within : length bytes ≤ MAX_SCRIPT_BYTES
  pub written :
      WritesPrefix old.out new.out (reply_bytes form plan (whole_lines_of bytes))
      ⊎ (IsIfKnown [] new.script × WritesPrefix old.out new.out (output_of mode form plan (lines_of bytes)))

-- by the status
abbrev pub EndsOverPlan : Mode → Form → Plan → Streams → Streams → Status → Type 0
EndsOverPlan mode form plan old new Done = IsAnswered mode form plan old new false
EndsOverPlan mode form plan old new DoneWithRefusals = IsAnswered mode form plan old new true
EndsOverPlan mode form plan old new BadWords = ⊥
EndsOverPlan mode form plan old new BadPlan = ⊥
EndsOverPlan mode form plan old new ReadFault = ScriptUnread form plan old new
EndsOverPlan mode form plan old new WriteFault =
    IsAnsweredInPart mode form plan old new × OnlyOutFailed old.faults new.faults
EndsOverPlan mode form plan old new NoMemory =
    IsAnsweredInPart mode form plan old new × (new.faults ≡ old.faults)
EndsOverPlan mode form plan old new TooLong = ScriptTooLong form plan old new

-- ---- an analysis that comes to no plan

-- nothing was taken of the script, and nothing was written
pub record IsBeforeScript (old new : Streams) : Type 0 where
  pub script : new.script ≡ old.script
  pub out : new.out ≡ old.out

-- by the status, and by what is known of the file's bytes
abbrev pub EndsWithoutPlan : Option (List ℕ) → Streams → Streams → Status → Type 0
EndsWithoutPlan known old new Done = ⊥
EndsWithoutPlan known old new DoneWithRefusals = ⊥
EndsWithoutPlan known old new BadWords = ⊥
EndsWithoutPlan known old new BadPlan =
    ((line : ℕ) × (reason : Reason) × ReadsRefused known new.file line reason)
    × IsBeforeScript old new × (new.faults ≡ old.faults)
EndsWithoutPlan known old new ReadFault =
    TakesPart MAX_PLAN_BYTES old.file known new.file × IsBeforeScript old new × OnlyFilesFailed old.faults new.faults
EndsWithoutPlan known old new WriteFault = ⊥
EndsWithoutPlan known old new NoMemory =
    TakesPart (MAX_PLAN_BYTES + 1) old.file known new.file × IsBeforeScript old new × (new.faults ≡ old.faults)
EndsWithoutPlan known old new TooLong =
    TakesTooMany known new.file × IsBeforeScript old new × (new.faults ≡ old.faults)

-- ---- by what is asked for

-- an analysis comes to no plan; or the file was read to its end and holds a plan, over which the script is answered
abbrev pub EndsAnalysis : Mode → Form → Option (List ℕ) → Streams → Streams → Status → Type 0
EndsAnalysis mode form known old new status =
    EndsWithoutPlan known old new status
    ⊎ ((plan : Plan) × ReadsPlan known new.file plan × EndsOverPlan mode form plan old new status)

-- a trial takes nothing of the files and of the script, and writes its record, or a prefix of it where it ends early
pub record IsTried (old new : Streams) : Type 0 where
  pub file : new.file ≡ old.file
  pub script : new.script ≡ old.script

-- by the status
abbrev pub EndsTrial : Form → ℕ → Streams → Streams → Status → Type 0
EndsTrial form boxes old new Done =
    IsTried old new × (new.out ≡ appended_to old.out (trial_output form boxes)) × (new.faults ≡ old.faults)
EndsTrial form boxes old new WriteFault =
    IsTried old new × WritesPrefix old.out new.out (trial_output form boxes) × OnlyOutFailed old.faults new.faults
EndsTrial form boxes old new NoMemory =
    IsTried old new × WritesPrefix old.out new.out (trial_output form boxes) × (new.faults ≡ old.faults)
EndsTrial form boxes old new _ = ⊥

-- by the job, and by what each file holds
abbrev pub EndsJob : Job → Form → (List ℕ → Option (List ℕ)) → Streams → Streams → Status → Type 0
EndsJob (Analyse mode file) form holds old new status = EndsAnalysis mode form (holds file) old new status
EndsJob (Trial boxes) form holds old new status = EndsTrial form boxes old new status

-- words that give no options leave all as before: they are bad, or there is no memory to read them
abbrev pub EndsWithoutOptions : Streams → Streams → Status → Type 0
EndsWithoutOptions old new BadWords = new ≡ old
EndsWithoutOptions old new NoMemory = new ≡ old
EndsWithoutOptions old new _ = ⊥

-- by the options
abbrev pub Ends : Option Options → (List ℕ → Option (List ℕ)) → Streams → Streams → Status → Type 0
Ends None holds old new status = EndsWithoutOptions old new status
Ends (Some options) holds old new status = EndsJob options.job options.form holds old new status

-- ---- where all is done

-- the output that the options ask for was written, and the status tells whether a reply of it is `refused`
pub record IsOutput (options : Options) (plan : Option Plan) (text : List ℕ) (old new : Streams) (status : Status) : Type 0 where
  pub written : new.out ≡ appended_to old.out (output_by options plan (lines_of text))
  pub told : status ≡ done_status (is_refused_by options plan (lines_of text))

-- an analysis: where the bytes of the file and those of the script are known, P holds of the plan that the file holds and of
-- the script's text. A trial reads neither
abbrev pub OfInput : Job → (List ℕ → Option (List ℕ)) → Option (List ℕ) → (Option Plan → List ℕ → Type 0) → Type 0
OfInput (Analyse mode file) holds script P =
    IfSome (holds file) (λ bytes. IfSome script (λ text. (plan : Plan) × HoldsPlan bytes plan × P (Some plan) text))
OfInput (Trial boxes) holds script P = P None []

-- by the status: with 0 and 1
abbrev pub HasOutput : Option Options → (List ℕ → Option (List ℕ)) → Streams → Streams → Status → Type 0
HasOutput (Some options) holds old new Done =
    OfInput options.job holds old.script (λ plan text. IsOutput options plan text old new Done)
HasOutput (Some options) holds old new DoneWithRefusals =
    OfInput options.job holds old.script (λ plan text. IsOutput options plan text old new DoneWithRefusals)
HasOutput options holds old new _ = ⊤

-- ---- where nothing fails and the limits are kept

-- all was done, or there was no memory
abbrev pub IsDone : Status → Type 0
IsDone status = (status ≡ Done) ⊎ ((status ≡ DoneWithRefusals) ⊎ (status ≡ NoMemory))

-- where the file's bytes and the script's are known, they hold a plan and keep the limits, and nothing failed
abbrev pub IsCompleteAnalysis : Option (List ℕ) → Streams → Streams → Status → Type 0
IsCompleteAnalysis known old new status =
    IfSome known (λ bytes. IfSome old.script (λ text.
    (plan : Plan) → HoldsPlan bytes plan → length text ≤ MAX_SCRIPT_BYTES → new.faults ≡ old.faults → IsDone status))

-- by the job
abbrev pub IsCompleteJob : Job → (List ℕ → Option (List ℕ)) → Streams → Streams → Status → Type 0
IsCompleteJob (Analyse mode file) holds old new status = IsCompleteAnalysis (holds file) old new status
IsCompleteJob (Trial boxes) holds old new status = new.faults ≡ old.faults → (status ≡ Done) ⊎ (status ≡ NoMemory)

-- by the options
abbrev pub IsComplete : Option Options → (List ℕ → Option (List ℕ)) → Streams → Streams → Status → Type 0
IsComplete None holds old new status = ⊤
IsComplete (Some options) holds old new status = IsCompleteJob options.job holds old new status

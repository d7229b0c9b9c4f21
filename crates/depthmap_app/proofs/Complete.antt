-- Where nothing fails and the limits are kept, all is done or there is no memory.
use Rattle.std.proofs.Common.{◌≡◌, ◌⊎◌, inl, inr, ◌+◌, ◌<◌, ◌≤◌, ℕ, List, [], ◌++◌, length, length-append, append-nil, Option, Some, None, Ok, Err, IfSome, refl, ap, sym, subst, ◌∙◌, arith}
use Rattle.dm_io.specs.Streams.{IsIfKnown, IsPrefix}
use Rattle.grammar_spec.specs.declared.limits.TheConstants.{MAX_PLAN_BYTES, MAX_SCRIPT_BYTES}
use Rattle.options_spec.specs.declared.options.Form.{Form}
use Rattle.options_spec.specs.declared.options.Job.{Job}
use Rattle.options_spec.specs.declared.options.Job.TheVariants.{Analyse, Trial}
use Rattle.options_spec.specs.declared.options.Mode.{Mode}
use Rattle.options_spec.specs.declared.options.Options.{Options}
use Rattle.plan_spec.specs.Plan.{Plan}
use Rattle.report_spec.specs.declared.reason.Reason.{Reason}
use Rattle.report_spec.specs.PlanFile.{PlanFound, plan_in_file}
use Rattle.depthmap_app.specs.Ends.{Ends, EndsAnalysis, EndsJob, EndsOverPlan, EndsTrial, EndsWithoutPlan, IsComplete, IsCompleteAnalysis, IsCompleteJob, IsDone}
use Rattle.plan_file.specs.PlanFiles.{HoldsPlan, IsWhole}
use Rattle.plan_file.specs.Streams.{Streams}
use Rattle.depthmap_app.specs.declared.status.Status.{Status}
use Rattle.depthmap_app.specs.declared.status.Status.TheVariants.{Done, DoneWithRefusals, BadWords, BadPlan, ReadFault, WriteFault, NoMemory, TooLong}
use Rattle.plan_file.proofs.KnownBytes.{if_known, prefix-at_most, whole-known}

no_plan : (plan : Plan) (line : ℕ) (reason : Reason) (found : PlanFound) → found ≡ Ok plan → found ≡ Err (line, reason) → ⊥
no_plan plan line reason found e f = none (sym e ∙ f)
  where
    none : ◌≡◌ {A = PlanFound} (Ok plan) (Err (line, reason)) → ⊥
    none e = cc

-- ---- by the status

without : (known : Option (List ℕ)) (old new : Streams) (status : Status) (bytes : List ℕ) (plan : Plan) → known ≡ Some bytes
    → HoldsPlan bytes plan → new.faults ≡ old.faults → EndsWithoutPlan known old new status → IsDone status
without known old new Done bytes plan k holds quiet e = absurd e
without known old new DoneWithRefusals bytes plan k holds quiet e = absurd e
without known old new BadWords bytes plan k holds quiet e = absurd e
without known old new BadPlan bytes plan k holds quiet e =
    let line = e.0.0 in
    let reason = e.0.1 in
    let taken = e.0.2.0 in
    let whole = e.0.2.1 in
    let refused = e.0.2.2 in
    let same = whole-known bytes taken new.file (sym k ∙ whole.taken) whole.ended in
    absurd (no_plan plan line reason (plan_in_file bytes) holds.held (sym (ap plan_in_file same) ∙ refused.refused))
without known old new ReadFault bytes plan k holds quiet e = absurd (omega (arith, e.2.0, ap (λ f. f.files) quiet))
without known old new WriteFault bytes plan k holds quiet e = absurd e
without known old new NoMemory bytes plan k holds quiet e = inr (inr refl)
without known old new TooLong bytes plan k holds quiet e =
    absurd (omega (arith, holds.short, e.0.1, prefix-at_most bytes e.0.0 new.file (sym k ∙ e.0.2)))

over : (mode : Mode) (form : Form) (held : Plan) (old new : Streams) (status : Status) (text : List ℕ) → old.script ≡ Some text
    → length text ≤ MAX_SCRIPT_BYTES → new.faults ≡ old.faults → EndsOverPlan mode form held old new status → IsDone status
over mode form held old new Done text s low quiet e = inl refl
over mode form held old new DoneWithRefusals text s low quiet e = inr (inl refl)
over mode form held old new BadWords text s low quiet e = absurd e
over mode form held old new BadPlan text s low quiet e = absurd e
over mode form held old new ReadFault text s low quiet e = absurd (omega (arith, e.faults.1, ap (λ f. f.script) quiet))
over mode form held old new WriteFault text s low quiet e = absurd (omega (arith, e.1.2, ap (λ f. f.out) quiet))
over mode form held old new NoMemory text s low quiet e = inr (inr refl)
over mode form held old new TooLong text s low quiet e =
    absurd (omega (arith, low, e.beyond, prefix-at_most text e.bytes new.script (sym s ∙ e.taken)))

analysis : (mode : Mode) (form : Form) (known : Option (List ℕ)) (old new : Streams) (status : Status)
    → EndsAnalysis mode form known old new status → IsCompleteAnalysis known old new status
analysis mode form known old new status e =
    if_known known _ (λ bytes k. if_known old.script _ (λ text s plan holds low quiet. by bytes text plan k s holds low quiet e))
  where
    by : (bytes text : List ℕ) (plan : Plan) → known ≡ Some bytes → old.script ≡ Some text → HoldsPlan bytes plan
        → length text ≤ MAX_SCRIPT_BYTES → new.faults ≡ old.faults → EndsAnalysis mode form known old new status → IsDone status
    by bytes text plan k s holds low quiet (inl early) = without known old new status bytes plan k holds quiet early
    by bytes text plan k s holds low quiet (inr late) = over mode form late.0 old new status text s low quiet late.2

trial : (form : Form) (boxes : ℕ) (old new : Streams) (status : Status) → EndsTrial form boxes old new status
    → new.faults ≡ old.faults → (status ≡ Done) ⊎ (status ≡ NoMemory)
trial form boxes old new Done e quiet = inl refl
trial form boxes old new DoneWithRefusals e quiet = absurd e
trial form boxes old new BadWords e quiet = absurd e
trial form boxes old new BadPlan e quiet = absurd e
trial form boxes old new ReadFault e quiet = absurd e
trial form boxes old new WriteFault e quiet = absurd (omega (arith, e.2.2, ap (λ f. f.out) quiet))
trial form boxes old new NoMemory e quiet = inr refl
trial form boxes old new TooLong e quiet = absurd e

by_job : (job : Job) (form : Form) (holds : List ℕ → Option (List ℕ)) (old new : Streams) (status : Status)
    → EndsJob job form holds old new status → IsCompleteJob job holds old new status
by_job (Analyse mode file) form holds old new status e = analysis mode form (holds file) old new status e
by_job (Trial boxes) form holds old new status e = trial form boxes old new status e

pub ends-complete : (options : Option Options) (holds : List ℕ → Option (List ℕ)) (old new : Streams) (status : Status)
    → Ends options holds old new status → IsComplete options holds old new status
ends-complete None holds old new status e = tt
ends-complete (Some options) holds old new status e = by_job options.job options.form holds old new status e

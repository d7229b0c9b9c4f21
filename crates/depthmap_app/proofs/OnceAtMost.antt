-- No count of faults rises by more than one in a run.
use Rattle.std.proofs.Common.{◌≡◌, ◌⊎◌, inl, inr, ◌+◌, ◌≤◌, ℕ, List, Option, Some, None, IfSome, IfNone, ap, refl, arith}
use Rattle.options_spec.specs.declared.options.Form.{Form}
use Rattle.options_spec.specs.declared.options.Job.{Job}
use Rattle.options_spec.specs.declared.options.Job.TheVariants.{Analyse, Trial}
use Rattle.options_spec.specs.declared.options.Mode.{Mode}
use Rattle.options_spec.specs.declared.options.Options.{Options}
use Rattle.plan_spec.specs.Plan.{Plan}
use Rattle.depthmap_app.specs.Ends.{Ends, EndsAnalysis, EndsJob, EndsOverPlan, EndsTrial, EndsWithoutOptions, EndsWithoutPlan}
use Rattle.plan_file.specs.Said.{IsSaid, IsSilent, SaysWhy}
use Rattle.plan_file.proofs.Counts.{Once, once-files, once-none, once-out, once-said, once-script}
use Rattle.report_spec.specs.Messages.{plan_message}
use Rattle.depthmap_app.specs.Statuses.{message_of}
use Rattle.plan_file.specs.Streams.{RoseOnceAtMost, Streams}
use Rattle.depthmap_app.specs.declared.status.Status.{Status}
use Rattle.depthmap_app.specs.declared.status.Status.TheVariants.{Done, DoneWithRefusals, BadWords, BadPlan, ReadFault, WriteFault, NoMemory, TooLong}

-- ---- by the status

over : (mode : Mode) (form : Form) (plan : Plan) (old new : Streams) (status : Status)
    → EndsOverPlan mode form plan old new status → Once old.faults new.faults
over mode form plan old new Done e = once-none old.faults new.faults e.faults
over mode form plan old new DoneWithRefusals e = once-none old.faults new.faults e.faults
over mode form plan old new BadWords e = absurd e
over mode form plan old new BadPlan e = absurd e
over mode form plan old new ReadFault e = once-script old.faults new.faults e.faults
over mode form plan old new WriteFault e = once-out old.faults new.faults e.1
over mode form plan old new NoMemory e = once-none old.faults new.faults e.1
over mode form plan old new TooLong e = once-none old.faults new.faults e.faults

without : (known : Option (List ℕ)) (old new : Streams) (status : Status) → EndsWithoutPlan known old new status
    → Once old.faults new.faults
without known old new Done e = absurd e
without known old new DoneWithRefusals e = absurd e
without known old new BadWords e = absurd e
without known old new BadPlan e = once-none old.faults new.faults e.2
without known old new ReadFault e = once-files old.faults new.faults e.2
without known old new WriteFault e = absurd e
without known old new NoMemory e = once-none old.faults new.faults e.2
without known old new TooLong e = once-none old.faults new.faults e.2

analysis : (mode : Mode) (form : Form) (known : Option (List ℕ)) (old new : Streams) (status : Status)
    → EndsAnalysis mode form known old new status → Once old.faults new.faults
analysis mode form known old new status (inl early) = without known old new status early
analysis mode form known old new status (inr late) = over mode form late.0 old new status late.2

trial : (form : Form) (boxes : ℕ) (old new : Streams) (status : Status) → EndsTrial form boxes old new status
    → Once old.faults new.faults
trial form boxes old new Done e = once-none old.faults new.faults e.2
trial form boxes old new DoneWithRefusals e = absurd e
trial form boxes old new BadWords e = absurd e
trial form boxes old new BadPlan e = absurd e
trial form boxes old new ReadFault e = absurd e
trial form boxes old new WriteFault e = once-out old.faults new.faults e.2
trial form boxes old new NoMemory e = once-none old.faults new.faults e.2
trial form boxes old new TooLong e = absurd e

without_options : (old new : Streams) (status : Status) → EndsWithoutOptions old new status → Once old.faults new.faults
without_options old new Done e = absurd e
without_options old new DoneWithRefusals e = absurd e
without_options old new BadWords e = once-none old.faults new.faults (ap (λ (s : Streams). s.faults) e)
without_options old new BadPlan e = absurd e
without_options old new ReadFault e = absurd e
without_options old new WriteFault e = absurd e
without_options old new NoMemory e = once-none old.faults new.faults (ap (λ (s : Streams). s.faults) e)
without_options old new TooLong e = absurd e

by_job : (job : Job) (form : Form) (holds : List ℕ → Option (List ℕ)) (old new : Streams) (status : Status)
    → EndsJob job form holds old new status → Once old.faults new.faults
by_job (Analyse mode file) form holds old new status e = analysis mode form (holds file) old new status e
by_job (Trial boxes) form holds old new status e = trial form boxes old new status e

by_options : (options : Option Options) (holds : List ℕ → Option (List ℕ)) (old new : Streams) (status : Status)
    → Ends options holds old new status → Once old.faults new.faults
by_options None holds old new status e = without_options old new status e
by_options (Some options) holds old new status e = by_job options.job options.form holds old new status e

-- ---- standard error

-- what was said of a refused plan, and then nothing; or nothing, and then the line of the status
by_line : (status : Status) (known left before mid after : Option (List ℕ)) (count count_mid count_after : ℕ)
    → (status ≡ BadPlan → SaysWhy plan_message known left before mid count count_mid)
    → (status ≡ BadPlan) ⊎ IsSilent before mid count count_mid
    → IfSome (message_of status) (IsSaid mid after count_mid count_after)
    → IfNone (message_of status) (IsSilent mid after count_mid count_after) → count_after ≤ count + 1
by_line Done known left before mid after count count_mid count_after why silent line none' =
    elim silent [ inl bad ↦ absurd cc | inr still ↦ omega (arith, still.1, none'.1) ]
by_line DoneWithRefusals known left before mid after count count_mid count_after why silent line none' =
    elim silent [ inl bad ↦ absurd cc | inr still ↦ omega (arith, still.1, none'.1) ]
by_line BadPlan known left before mid after count count_mid count_after why silent line none' =
    omega (arith, once-said before mid count count_mid _ (why refl).3, none'.1)
by_line BadWords known left before mid after count count_mid count_after why silent line none' =
    elim silent [ inl bad ↦ absurd cc | inr still ↦ omega (arith, still.1, once-said mid after count_mid count_after _ line) ]
by_line ReadFault known left before mid after count count_mid count_after why silent line none' =
    elim silent [ inl bad ↦ absurd cc | inr still ↦ omega (arith, still.1, once-said mid after count_mid count_after _ line) ]
by_line WriteFault known left before mid after count count_mid count_after why silent line none' =
    elim silent [ inl bad ↦ absurd cc | inr still ↦ omega (arith, still.1, once-said mid after count_mid count_after _ line) ]
by_line NoMemory known left before mid after count count_mid count_after why silent line none' =
    elim silent [ inl bad ↦ absurd cc | inr still ↦ omega (arith, still.1, once-said mid after count_mid count_after _ line) ]
by_line TooLong known left before mid after count count_mid count_after why silent line none' =
    elim silent [ inl bad ↦ absurd cc | inr still ↦ omega (arith, still.1, once-said mid after count_mid count_after _ line) ]

pub once-at_most : (options : Option Options) (holds : List ℕ → Option (List ℕ)) (old new : Streams)
    (known left before mid after : Option (List ℕ)) (count count_mid count_after : ℕ) (status : Status)
    → Ends options holds old new status
    → (status ≡ BadPlan → SaysWhy plan_message known left before mid count count_mid)
    → (status ≡ BadPlan) ⊎ IsSilent before mid count count_mid
    → IfSome (message_of status) (IsSaid mid after count_mid count_after)
    → IfNone (message_of status) (IsSilent mid after count_mid count_after)
    → RoseOnceAtMost old.faults new.faults count count_after
once-at_most options holds old new known left before mid after count count_mid count_after status ends why silent line none' =
    let once = by_options options holds old new status ends in
    record {
      files = once.files;
      script = once.script;
      out = once.out;
      said = by_line status known left before mid after count count_mid count_after why silent line none';
    }

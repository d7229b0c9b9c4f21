-- No count of faults rises by more than one in a run.
use Rattle.std.proofs.Common.{◌≡◌, ◌⊎◌, inl, inr, ◌+◌, ◌≤◌, ℕ, List, Option, Some, None, IfSome, IfNone, ap, refl, arith}
use Rattle.plan_spec.specs.Plan.{Plan}
use Rattle.plan_file.specs.Said.{IsSaid, IsSilent, SaysWhy}
use Rattle.plan_file.specs.Streams.{RoseOnceAtMost, Streams}
use Rattle.plan_file.proofs.Counts.{Once, once-files, once-none, once-out, once-said}
use Rattle.walk_spec.specs.declared.WalkSpec.{WalkSpec}
use Rattle.walk_words.specs.declared.reading.WalkOptions.{WalkOptions}
use Rattle.walk_app.specs.Ends.{Ends, EndsOfFile, EndsOverPlan, EndsWithoutPlan}
use Rattle.walk_app.specs.Statuses.{message_of, plan_message}
use Rattle.walk_app.specs.declared.status.WalkStatus.{WalkStatus}
use Rattle.walk_app.specs.declared.status.WalkStatus.TheVariants.{Done, BadWords, BadPlan, ReadFault, WriteFault, NoMemory, TooLong, NoOpen}

-- ---- by the status

over : (plan : Plan) (spec : WalkSpec) (old new : Streams) (status : WalkStatus) → EndsOverPlan plan spec old new status
    → Once old.faults new.faults
over plan spec old new Done e = once-none old.faults new.faults e.2
over plan spec old new BadWords e = absurd e
over plan spec old new BadPlan e = absurd e
over plan spec old new ReadFault e = absurd e
over plan spec old new WriteFault e = once-out old.faults new.faults e.2
over plan spec old new NoMemory e = once-none old.faults new.faults e.1
over plan spec old new TooLong e = absurd e
over plan spec old new NoOpen e = once-none old.faults new.faults e.2

without : (known : Option (List ℕ)) (old new : Streams) (status : WalkStatus) → EndsWithoutPlan known old new status
    → Once old.faults new.faults
without known old new Done e = absurd e
without known old new BadWords e = absurd e
without known old new BadPlan e = once-none old.faults new.faults e.2
without known old new ReadFault e = once-files old.faults new.faults e.2
without known old new WriteFault e = absurd e
without known old new NoMemory e = once-none old.faults new.faults e.2
without known old new TooLong e = once-none old.faults new.faults e.2
without known old new NoOpen e = absurd e

of_file : (known : Option (List ℕ)) (spec : WalkSpec) (old new : Streams) (status : WalkStatus)
    → EndsOfFile known spec old new status → Once old.faults new.faults
of_file known spec old new status (inl early) = without known old new status early
of_file known spec old new status (inr late) = over late.0 spec old new status late.2

by_options : (options : Option WalkOptions) (holds : List ℕ → Option (List ℕ)) (old new : Streams) (status : WalkStatus)
    → Ends options holds old new status → Once old.faults new.faults
by_options None holds old new status e = once-none old.faults new.faults (ap (λ (s : Streams). s.faults) e.1)
by_options (Some options) holds old new status e = of_file (holds options.file) options.spec old new status e

-- ---- standard error

-- what was said of a refused plan, and then nothing; or nothing, and then the line of the status
by_line : (status : WalkStatus) (known left before mid after : Option (List ℕ)) (count count_mid count_after : ℕ)
    → (status ≡ BadPlan → SaysWhy plan_message known left before mid count count_mid)
    → (status ≡ BadPlan) ⊎ IsSilent before mid count count_mid
    → IfSome (message_of status) (IsSaid mid after count_mid count_after)
    → IfNone (message_of status) (IsSilent mid after count_mid count_after) → count_after ≤ count + 1
by_line Done known left before mid after count count_mid count_after why silent line none' =
    elim silent [ inl bad ↦ absurd cc | inr still ↦ omega (arith, still.1, none'.1) ]
by_line BadPlan known left before mid after count count_mid count_after why silent line none' =
    omega (arith, once-said before mid count count_mid _ (why refl).3, none'.1)
by_line BadWords known left before mid after count count_mid count_after why silent line none' =
    elim silent [ inl bad ↦ absurd cc | inr still ↦ omega (arith, still.1, once-said mid after count_mid count_after _ line) ]
by_line ReadFault known left before mid after count count_mid count_after why silent line none' =
    elim silent [ inl bad ↦ absurd cc | inr still ↦ omega (arith, still.1, once-said mid after count_mid count_after _ line) ]
by_line WriteFault known left before mid after count count_mid count_after why silent line none' =
    elim silent [ inl bad ↦ absurd cc | inr still ↦ omega (arith, still.1, once-said mid after count_mid count_after _ line) ]
by_line NoMemory known left before mid after count count_mid count_after why silent line none' =
    elim silent [ inl bad ↦ absurd cc | inr still ↦ omega (arith, still.1, once-said mid after count_mid count_after _ line) ]
by_line TooLong known left before mid after count count_mid count_after why silent line none' =
    elim silent [ inl bad ↦ absurd cc | inr still ↦ omega (arith, still.1, once-said mid after count_mid count_after _ line) ]
by_line NoOpen known left before mid after count count_mid count_after why silent line none' =
    elim silent [ inl bad ↦ absurd cc | inr still ↦ omega (arith, still.1, once-said mid after count_mid count_after _ line) ]

pub once-at_most : (options : Option WalkOptions) (holds : List ℕ → Option (List ℕ)) (old new : Streams)
    (known left before mid after : Option (List ℕ)) (count count_mid count_after : ℕ) (status : WalkStatus)
    → Ends options holds old new status
    → (status ≡ BadPlan → SaysWhy plan_message known left before mid count count_mid)
    → (status ≡ BadPlan) ⊎ IsSilent before mid count count_mid
    → IfSome (message_of status) (IsSaid mid after count_mid count_after)
    → IfNone (message_of status) (IsSilent mid after count_mid count_after)
    → RoseOnceAtMost old.faults new.faults count count_after
once-at_most options holds old new known left before mid after count count_mid count_after status ends why silent line none' =
    let once = by_options options holds old new status ends in
    record {
      files = once.files;
      script = once.script;
      out = once.out;
      said = by_line status known left before mid after count count_mid count_after why silent line none';
    }

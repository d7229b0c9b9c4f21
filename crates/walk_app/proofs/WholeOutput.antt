-- With 0 and 8 the file holds a plan, and its table was written or it has no open point.
use Rattle.std.proofs.Common.{◌≡◌, inl, inr, ℕ, List, Option, Some, None, sym, subst, ◌∙◌}
use Rattle.plan_spec.specs.Plan.{Plan}
use Rattle.plan_file.specs.PlanFiles.{HoldsPlan, ReadsPlan}
use Rattle.plan_file.specs.Streams.{Streams}
use Rattle.plan_file.proofs.KnownBytes.{if_known, whole-known}
use Rattle.walk_spec.specs.declared.WalkSpec.{WalkSpec}
use Rattle.walk_words.specs.declared.reading.WalkOptions.{WalkOptions}
use Rattle.walk_app.specs.Ends.{Ends, EndsOfFile, EndsOverPlan, HasOutput, OfPlan}
use Rattle.walk_app.specs.declared.status.WalkStatus.{WalkStatus}
use Rattle.walk_app.specs.declared.status.WalkStatus.TheVariants.{Done, BadWords, BadPlan, ReadFault, WriteFault, NoMemory, TooLong, NoOpen}

-- what holds of the plan that was read holds of the one in the file
of_read : (known left : Option (List ℕ)) (P : Plan → Type 0) (held : Plan) → ReadsPlan known left held → P held → OfPlan known P
of_read known left P held read p = if_known known _ (λ bytes k. (held, holds bytes k, p))
  where
    holds : (bytes : List ℕ) → known ≡ Some bytes → HoldsPlan bytes held
    holds bytes k =
        subst (λ b. HoldsPlan b held) (whole-known bytes read.0 left (sym k ∙ read.1.taken) read.1.ended) read.2

done : (known : Option (List ℕ)) (spec : WalkSpec) (old new : Streams) → EndsOfFile known spec old new Done
    → OfPlan known (λ plan. EndsOverPlan plan spec old new Done)
done known spec old new (inl early) = absurd early
done known spec old new (inr late) =
    of_read known new.file (λ plan. EndsOverPlan plan spec old new Done) late.0 late.1 late.2

no_open : (known : Option (List ℕ)) (spec : WalkSpec) (old new : Streams) → EndsOfFile known spec old new NoOpen
    → OfPlan known (λ plan. EndsOverPlan plan spec old new NoOpen)
no_open known spec old new (inl early) = absurd early
no_open known spec old new (inr late) =
    of_read known new.file (λ plan. EndsOverPlan plan spec old new NoOpen) late.0 late.1 late.2

pub ends-output : (options : Option WalkOptions) (holds : List ℕ → Option (List ℕ)) (old new : Streams) (status : WalkStatus)
    → Ends options holds old new status → HasOutput options holds old new status
ends-output None holds old new Done e = tt
ends-output None holds old new BadWords e = tt
ends-output None holds old new BadPlan e = tt
ends-output None holds old new ReadFault e = tt
ends-output None holds old new WriteFault e = tt
ends-output None holds old new NoMemory e = tt
ends-output None holds old new TooLong e = tt
ends-output None holds old new NoOpen e = tt
ends-output (Some options) holds old new Done e = done (holds options.file) options.spec old new e
ends-output (Some options) holds old new BadWords e = tt
ends-output (Some options) holds old new BadPlan e = tt
ends-output (Some options) holds old new ReadFault e = tt
ends-output (Some options) holds old new WriteFault e = tt
ends-output (Some options) holds old new NoMemory e = tt
ends-output (Some options) holds old new TooLong e = tt
ends-output (Some options) holds old new NoOpen e = no_open (holds options.file) options.spec old new e

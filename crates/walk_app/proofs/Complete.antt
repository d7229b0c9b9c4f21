-- Where nothing fails and the limit is kept, all is done or there is no memory.
use Rattle.std.proofs.Common.{◌≡◌, inl, inr, ◌<◌, ℕ, List, [], ◌∷◌, length, Option, Some, None, Ok, Err, refl, ap, sym, subst, ◌∙◌, arith}
use Rattle.plane_spec.specs.declared.Point.{Point}
use Rattle.plan_spec.specs.Plan.{Plan}
use Rattle.report_spec.specs.declared.reason.Reason.{Reason}
use Rattle.report_spec.specs.PlanFile.{PlanFound, plan_in_file}
use Rattle.sight_spec.specs.Visibility.{open_points}
use Rattle.plan_file.specs.PlanFiles.{HoldsPlan, ReadsPlan}
use Rattle.plan_file.specs.Streams.{Streams}
use Rattle.plan_file.proofs.KnownBytes.{if_known, prefix-at_most, whole-known}
use Rattle.walk_spec.specs.declared.WalkSpec.{WalkSpec}
use Rattle.walk_words.specs.declared.reading.WalkOptions.{WalkOptions}
use Rattle.walk_app.specs.Ends.{Ends, EndsOfFile, EndsOverPlan, EndsWithoutPlan, IsComplete, IsDone, walked_status}
use Rattle.walk_app.specs.declared.status.WalkStatus.{WalkStatus}
use Rattle.walk_app.specs.declared.status.WalkStatus.TheVariants.{Done, BadWords, BadPlan, ReadFault, WriteFault, NoMemory, TooLong, NoOpen}

no_plan : (plan : Plan) (line : ℕ) (reason : Reason) (found : PlanFound) → found ≡ Ok plan → found ≡ Err (line, reason) → ⊥
no_plan plan line reason found e f = none (sym e ∙ f)
  where
    none : ◌≡◌ {A = PlanFound} (Ok plan) (Err (line, reason)) → ⊥
    none e = cc

same_found : (a b : Plan) → ◌≡◌ {A = PlanFound} (Ok a) (Ok b) → a ≡ b
same_found a b e = cc

-- ---- the status by the open points

with_open : (points : List (ℕ × Point)) → 0 < length points → Done ≡ walked_status points
with_open [] some = absurd (omega (arith, some))
with_open (first ∷ others) some = refl

with_none : (points : List (ℕ × Point)) → points ≡ [] → NoOpen ≡ walked_status points
with_none points none = ap walked_status (sym none)

-- ---- by the status

without : (known : Option (List ℕ)) (old new : Streams) (status : WalkStatus) (bytes : List ℕ) (plan : Plan) → known ≡ Some bytes
    → HoldsPlan bytes plan → new.faults ≡ old.faults → EndsWithoutPlan known old new status → IsDone plan status
without known old new Done bytes plan k holds quiet e = absurd e
without known old new BadWords bytes plan k holds quiet e = absurd e
without known old new BadPlan bytes plan k holds quiet e =
    let line = e.0.0 in
    let reason = e.0.1 in
    let taken = e.0.2.0 in
    let whole = e.0.2.1 in
    let refused = e.0.2.2 in
    let same = whole-known bytes taken new.file (sym k ∙ whole.taken) whole.ended in
    absurd (no_plan plan line reason (plan_in_file bytes) holds.held (sym (ap plan_in_file same) ∙ refused.refused))
without known old new ReadFault bytes plan k holds quiet e = absurd (omega (arith, e.2.0, ap (λ f. f.files) quiet))
without known old new WriteFault bytes plan k holds quiet e = absurd e
without known old new NoMemory bytes plan k holds quiet e = inr refl
without known old new TooLong bytes plan k holds quiet e =
    absurd (omega (arith, holds.short, e.0.1, prefix-at_most bytes e.0.0 new.file (sym k ∙ e.0.2)))
without known old new NoOpen bytes plan k holds quiet e = absurd e

over : (spec : WalkSpec) (plan : Plan) (old new : Streams) (status : WalkStatus) → new.faults ≡ old.faults
    → EndsOverPlan plan spec old new status → IsDone plan status
over spec plan old new Done quiet e = inl (with_open (open_points plan) e.0)
over spec plan old new BadWords quiet e = absurd e
over spec plan old new BadPlan quiet e = absurd e
over spec plan old new ReadFault quiet e = absurd e
over spec plan old new WriteFault quiet e = absurd (omega (arith, e.2.2, ap (λ f. f.out) quiet))
over spec plan old new NoMemory quiet e = inr refl
over spec plan old new TooLong quiet e = absurd e
over spec plan old new NoOpen quiet e = inl (with_none (open_points plan) e.0)

-- the plan that was read is the one that the file holds
held-is : (known left : Option (List ℕ)) (bytes : List ℕ) (plan held : Plan) → known ≡ Some bytes → HoldsPlan bytes plan
    → ReadsPlan known left held → held ≡ plan
held-is known left bytes plan held k holds read =
    let same = whole-known bytes read.0 left (sym k ∙ read.1.taken) read.1.ended in
    same_found held plan (sym read.2.held ∙ ap plan_in_file same ∙ holds.held)

of_file : (known : Option (List ℕ)) (spec : WalkSpec) (old new : Streams) (status : WalkStatus) (bytes : List ℕ) (plan : Plan)
    → known ≡ Some bytes → HoldsPlan bytes plan → new.faults ≡ old.faults → EndsOfFile known spec old new status → IsDone plan status
of_file known spec old new status bytes plan k holds quiet (inl early) = without known old new status bytes plan k holds quiet early
of_file known spec old new status bytes plan k holds quiet (inr late) =
    subst (λ p. IsDone p status) (held-is known new.file bytes plan late.0 k holds late.1)
    (over spec late.0 old new status quiet late.2)

pub ends-complete : (options : Option WalkOptions) (holds : List ℕ → Option (List ℕ)) (old new : Streams) (status : WalkStatus)
    → Ends options holds old new status → IsComplete options holds old new status
ends-complete None holds old new status e = e.0
ends-complete (Some options) holds old new status e =
    if_known (holds options.file) _ (λ bytes k plan held quiet. of_file (holds options.file) options.spec old new status bytes plan k held quiet e)

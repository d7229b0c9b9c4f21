-- With 0 and 1 the whole output was written that the options ask for.
use Rattle.std.proofs.Common.{◌≡◌, inl, inr, ℕ, Bool, true, false, List, [], Option, Some, None, IfSome, refl, ap, sym, subst, ◌∙◌}
use Rattle.text_spec.specs.Lines.{lines_of}
use Rattle.dm_io.specs.Streams.{appended_to}
use Rattle.options_spec.specs.declared.options.Job.{Job}
use Rattle.options_spec.specs.declared.options.Job.TheVariants.{Analyse, Trial}
use Rattle.options_spec.specs.declared.options.Mode.{Mode}
use Rattle.options_spec.specs.declared.options.Options.{Options}
use Rattle.plan_spec.specs.Plan.{Plan}
use Rattle.report_spec.specs.Output.{is_refused_by, job_is_refused, output_by, output_is_refused, output_of, output_of_job, trial_output}
use Rattle.depthmap_app.specs.Ends.{Ends, EndsAnalysis, EndsJob, HasOutput, IsAnswered, IsOutput, OfInput}
use Rattle.plan_file.specs.PlanFiles.{HoldsPlan, ReadsPlan}
use Rattle.depthmap_app.specs.Statuses.{done_status}
use Rattle.plan_file.specs.Streams.{Streams}
use Rattle.depthmap_app.specs.declared.status.Status.{Status}
use Rattle.depthmap_app.specs.declared.status.Status.TheVariants.{Done, DoneWithRefusals, BadWords, BadPlan, ReadFault, WriteFault, NoMemory, TooLong}
use Rattle.plan_file.proofs.KnownBytes.{if_known, whole-known}

-- ---- the definitions by the job

output-is : (options : Options) (job : Job) (plan : Option Plan) (lines : List (List ℕ)) → options.job ≡ job
    → output_by options plan lines ≡ output_of_job job options.form plan lines
unfolding output_by
output-is options job plan lines is = ap (λ j. output_of_job j options.form plan lines) is

refused-is : (options : Options) (job : Job) (plan : Option Plan) (lines : List (List ℕ)) → options.job ≡ job
    → is_refused_by options plan lines ≡ job_is_refused job plan lines
unfolding is_refused_by
refused-is options job plan lines is = ap (λ j. job_is_refused j plan lines) is

-- ---- an analysis

analysed : (options : Options) (mode : Mode) (file : List ℕ) (known : Option (List ℕ)) (old new : Streams) (refused : Bool) (held : Plan)
    → options.job ≡ Analyse mode file → ReadsPlan known new.file held → IsAnswered mode options.form held old new refused
    → IfSome known (λ bytes. IfSome old.script (λ text.
    (plan : Plan) × HoldsPlan bytes plan × IsOutput options (Some plan) text old new (done_status refused)))
analysed options mode file known old new refused held is read all =
    if_known known _ (λ bytes k. if_known old.script _ (λ text s. (held, holds bytes k, output text s)))
  where
    holds : (bytes : List ℕ) → known ≡ Some bytes → HoldsPlan bytes held
    holds bytes k =
        subst (λ b. HoldsPlan b held) (whole-known bytes read.0 new.file (sym k ∙ read.1.taken) read.1.ended) read.2

    output : (text : List ℕ) → old.script ≡ Some text → IsOutput options (Some held) text old new (done_status refused)
    output text s =
        let same : all.text ≡ text = whole-known text all.text new.script (sym s ∙ all.taken) all.ended in
        record {
          written =
              all.written
              ∙ ap (λ t. appended_to old.out (output_of mode options.form held (lines_of t))) same
              ∙ ap (appended_to old.out) (sym (output-is options (Analyse mode file) (Some held) (lines_of text) is));
          told =
              ap done_status
              (sym all.refusal
              ∙ ap (λ t. output_is_refused mode held (lines_of t)) same
              ∙ sym (refused-is options (Analyse mode file) (Some held) (lines_of text) is));
        }

-- ---- a trial

tried : (options : Options) (boxes : ℕ) (old new : Streams) → options.job ≡ Trial boxes
    → new.out ≡ appended_to old.out (trial_output options.form boxes) → IsOutput options None [] old new Done
tried options boxes old new is written = record {
  written = written ∙ ap (appended_to old.out) (sym (output-is options (Trial boxes) None (lines_of []) is));
  told = ap done_status (sym (refused-is options (Trial boxes) None (lines_of []) is));
}

-- ---- by the status

done : (options : Options) (job : Job) (holds : List ℕ → Option (List ℕ)) (old new : Streams) → options.job ≡ job
    → EndsJob job options.form holds old new Done
    → OfInput job holds old.script (λ plan text. IsOutput options plan text old new Done)
done options (Analyse mode file) holds old new is (inl early) = absurd early
done options (Analyse mode file) holds old new is (inr late) =
    analysed options mode file (holds file) old new false late.0 is late.1 late.2
done options (Trial boxes) holds old new is tried_it = tried options boxes old new is tried_it.1

with_refusals : (options : Options) (job : Job) (holds : List ℕ → Option (List ℕ)) (old new : Streams) → options.job ≡ job
    → EndsJob job options.form holds old new DoneWithRefusals
    → OfInput job holds old.script (λ plan text. IsOutput options plan text old new DoneWithRefusals)
with_refusals options (Analyse mode file) holds old new is (inl early) = absurd early
with_refusals options (Analyse mode file) holds old new is (inr late) =
    analysed options mode file (holds file) old new true late.0 is late.1 late.2
with_refusals options (Trial boxes) holds old new is tried_it = absurd tried_it

pub ends-output : (options : Option Options) (holds : List ℕ → Option (List ℕ)) (old new : Streams) (status : Status)
    → Ends options holds old new status → HasOutput options holds old new status
ends-output None holds old new Done e = tt
ends-output None holds old new DoneWithRefusals e = tt
ends-output None holds old new BadWords e = tt
ends-output None holds old new BadPlan e = tt
ends-output None holds old new ReadFault e = tt
ends-output None holds old new WriteFault e = tt
ends-output None holds old new NoMemory e = tt
ends-output None holds old new TooLong e = tt
ends-output (Some options) holds old new Done e = done options options.job holds old new refl e
ends-output (Some options) holds old new DoneWithRefusals e = with_refusals options options.job holds old new refl e
ends-output (Some options) holds old new BadWords e = tt
ends-output (Some options) holds old new BadPlan e = tt
ends-output (Some options) holds old new ReadFault e = tt
ends-output (Some options) holds old new WriteFault e = tt
ends-output (Some options) holds old new NoMemory e = tt
ends-output (Some options) holds old new TooLong e = tt

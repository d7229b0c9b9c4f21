-- How the answering of a script over a plan ends, by what the loop over its lines says.
use Rattle.std.proofs.Common.{◌≡◌, ◌⊎◌, inl, inr, ◌+◌, ◌-◌, ◌^◌, ◌<◌, ◌≤◌, ◌||◌, ℕ, min, Bool, true, false, List, [], ◌++◌, length, take, Option, refl, ap, sym, subst, ◌∙◌, arith}
use Rattle.text_spec.specs.Lines.{lines_of, whole_lines_of}
use Rattle.dm_io.specs.Streams.{IsIfKnown, IsPrefix, Rose, WritesPrefix, appended_to}
use Rattle.dm_io.proofs.Known.{appended_to-nothing, prepended_to-nothing}
use Rattle.grammar_spec.specs.declared.limits.TheConstants.{MAX_SCRIPT_BYTES}
use Rattle.options_spec.specs.declared.options.Form.{Form}
use Rattle.options_spec.specs.declared.options.Mode.{Mode}
use Rattle.plan_spec.specs.Plan.{Plan}
use Rattle.report_spec.specs.Output.{mode_is_refused, mode_records, output_is_refused, output_of, reply_bytes}
use Rattle.report_spec.specs.Records.{records_bytes}
use Rattle.report_spec.specs.Replies.{has_refusal, plan_after}
use Rattle.script_loop.specs.Ends.{AllAnswered, PartAnswered, WholeAnswered, WithinAnswered}
use Rattle.script_loop.specs.Steps.{has_refusal_by, replies_by, state_after}
use Rattle.depthmap_app.specs.Ends.{EndsOverPlan, IsAnswered, IsAnsweredInPart, ScriptTooLong, ScriptUnread}
use Rattle.depthmap_app.specs.Lines.{DeskState, desk, line_step}
use Rattle.depthmap_app.specs.Statuses.{done_status}
use Rattle.depthmap_app.specs.declared.status.Status.{Status}
use Rattle.plan_file.specs.Streams.{Faults, Streams, faults, streams}
use Rattle.depthmap_app.proofs.Replied.{bytes-are, output-begun, output-refusal, output-written, plan-left, refusal-is, replies-begun}

-- the script's count and the output's stay
pub same_counts : (files scripts scripts_after outs outs_after : ℕ) → scripts_after ≡ scripts → outs_after ≡ outs
    → faults files scripts_after outs_after ≡ faults files scripts outs
same_counts files scripts scripts_after outs outs_after s o =
    ap (λ f. faults files f outs_after) s ∙ ap (λ f. faults files scripts f) o

-- what is said over a plan is said over the same one
pub same_plan : (mode : Mode) (form : Form) (plan other : Plan) (old new : Streams) (status : Status) → other ≡ plan
    → EndsOverPlan mode form other old new status → EndsOverPlan mode form plan old new status
same_plan mode form plan other old new status e ends = subst (λ p. EndsOverPlan mode form p old new status) e ends

-- ---- the output was written whole

-- the plan that the script leaves
left-is : (form : Form) (plan : Plan) (last : DeskState) (lines : List (List ℕ))
    → last ≡ state_after line_step (desk plan form) 1 lines → last.plan ≡ plan_after plan 1 lines
left-is form plan last lines is = ap (λ d. d.plan) (is ∙ plan-left form plan 1 lines)

pub ends-done : (mode : Mode) (form : Form) (plan : Plan) (old new : Streams) (refused : Bool)
    → IsAnswered mode form plan old new refused → EndsOverPlan mode form plan old new (done_status refused)
ends-done mode form plan old new true a = a
ends-done mode form plan old new false a = a

pub answered : (mode : Mode) (form : Form) (plan : Plan) (first last : DeskState) (file later script left before mid after : Option (List ℕ))
    (files scripts scripts_after outs outs_mid outs_after : ℕ) (refused mode_refused : Bool) → first ≡ desk plan form
    → AllAnswered line_step MAX_SCRIPT_BYTES first last script left before mid refused
    → after ≡ appended_to mid (records_bytes form (mode_records mode last.plan)) → mode_refused ≡ mode_is_refused mode last.plan
    → scripts_after ≡ scripts → outs_mid ≡ outs → outs_after ≡ outs_mid
    → IsAnswered mode form plan (streams file script before (faults files scripts outs))
    (streams later left after (faults files scripts_after outs_after)) (refused || mode_refused)
answered mode form plan first last file later script left before mid after files scripts scripts_after outs outs_mid outs_after refused mode_refused begins given tables mode_refusal s o p =
    let all : AllAnswered line_step MAX_SCRIPT_BYTES (desk plan form) last script left before mid refused =
    subst (λ d. AllAnswered line_step MAX_SCRIPT_BYTES d last script left before mid refused) begins given in
    let lines = lines_of all.text in
    let is = left-is form plan last lines all.leaves in
    let replied = all.written ∙ ap (appended_to before) (bytes-are form plan lines) in
    record {
      text = all.text;
      taken = all.taken;
      ended = all.ended;
      within = all.within;
      written = output-written mode form plan last.plan before mid after lines is replied tables;
      refusal =
          output-refusal mode plan last.plan lines refused mode_refused is (all.refusal ∙ refusal-is form plan 1 lines) mode_refusal;
      faults = same_counts files scripts scripts_after outs outs_after s (p ∙ o);
    }

-- ---- a part was

-- a prefix of the tables
pub begun : (mode : Mode) (form : Form) (plan : Plan) (first last : DeskState) (file later script left before mid after : Option (List ℕ))
    (counts counts_after : Faults) (refused : Bool) → first ≡ desk plan form
    → AllAnswered line_step MAX_SCRIPT_BYTES first last script left before mid refused
    → WritesPrefix mid after (records_bytes form (mode_records mode last.plan))
    → IsAnsweredInPart mode form plan (streams file script before counts) (streams later left after counts_after)
begun mode form plan first last file later script left before mid after counts counts_after refused begins given tables =
    let all : AllAnswered line_step MAX_SCRIPT_BYTES (desk plan form) last script left before mid refused =
    subst (λ d. AllAnswered line_step MAX_SCRIPT_BYTES d last script left before mid refused) begins given in
    let lines = lines_of all.text in
    let is = left-is form plan last lines all.leaves in
    let replied = all.written ∙ ap (appended_to before) (bytes-are form plan lines) in
    record {
      bytes = all.text;
      taken = all.taken;
      within = all.within;
      written = inr (all.ended, output-begun mode form plan last.plan before mid after lines is replied tables);
    }

-- a prefix of the replies
pub replied-in_part : (mode : Mode) (form : Form) (plan : Plan) (first : DeskState) (file later script left before after : Option (List ℕ))
    (counts counts_after : Faults) → first ≡ desk plan form
    → PartAnswered line_step MAX_SCRIPT_BYTES first script left before after
    → IsAnsweredInPart mode form plan (streams file script before counts) (streams later left after counts_after)
replied-in_part mode form plan first file later script left before after counts counts_after begins given =
    let part : PartAnswered line_step MAX_SCRIPT_BYTES (desk plan form) script left before after =
    subst (λ d. PartAnswered line_step MAX_SCRIPT_BYTES d script left before after) begins given in
    record {
      bytes = part.bytes;
      taken = part.taken;
      within = part.within;
      written = elim part.written [
        | inl w ↦ inl (subst (WritesPrefix before after) (bytes-are form plan (whole_lines_of part.bytes)) w)
        | inr w ↦ inr (
          w.0,
          replies-begun mode form plan before after (lines_of part.bytes)
              (subst (WritesPrefix before after) (bytes-are form plan (lines_of part.bytes)) w.1),
        )
      ];
    }

-- nothing
pub nothing-answered : (mode : Mode) (form : Form) (plan : Plan) (file later script before : Option (List ℕ)) (counts counts_after : Faults)
    → IsAnsweredInPart mode form plan (streams file script before counts) (streams later script before counts_after)
nothing-answered mode form plan file later script before counts counts_after = record {
  bytes = [];
  taken = prepended_to-nothing script;
  within = omega arith;
  written = inl (0, omega arith, appended_to-nothing before);
}

-- ---- the script ends the run

pub unread : (form : Form) (plan : Plan) (first last : DeskState) (file later script left before after : Option (List ℕ))
    (files scripts scripts_after outs outs_after : ℕ) → first ≡ desk plan form
    → WholeAnswered line_step MAX_SCRIPT_BYTES first last script left before after
    → Rose scripts scripts_after → scripts < 2 ^ 64 - 1 → outs_after ≡ outs
    → ScriptUnread form plan (streams file script before (faults files scripts outs))
    (streams later left after (faults files scripts_after outs_after))
unread form plan first last file later script left before after files scripts scripts_after outs outs_after begins given rose below o =
    let whole : WholeAnswered line_step MAX_SCRIPT_BYTES (desk plan form) last script left before after =
    subst (λ d. WholeAnswered line_step MAX_SCRIPT_BYTES d last script left before after) begins given in
    record {
      bytes = whole.bytes;
      taken = whole.taken;
      within = whole.within;
      written = whole.written ∙ ap (appended_to before) (bytes-are form plan (whole_lines_of whole.bytes));
      faults = (refl, omega (arith, rose, below), o);
    }

pub too_long : (form : Form) (plan : Plan) (first last : DeskState) (file later script left before after : Option (List ℕ))
    (files scripts scripts_after outs outs_after : ℕ) → first ≡ desk plan form
    → WithinAnswered line_step MAX_SCRIPT_BYTES first last script left before after
    → scripts_after ≡ scripts → outs_after ≡ outs
    → ScriptTooLong form plan (streams file script before (faults files scripts outs))
    (streams later left after (faults files scripts_after outs_after))
too_long form plan first last file later script left before after files scripts scripts_after outs outs_after begins given s o =
    let within : WithinAnswered line_step MAX_SCRIPT_BYTES (desk plan form) last script left before after =
    subst (λ d. WithinAnswered line_step MAX_SCRIPT_BYTES d last script left before after) begins given in
    record {
      bytes = within.bytes;
      taken = within.taken;
      beyond = within.beyond;
      written = within.written ∙ ap (appended_to before) (bytes-are form plan (whole_lines_of (take MAX_SCRIPT_BYTES within.bytes)));
      faults = same_counts files scripts scripts_after outs outs_after s o;
    }

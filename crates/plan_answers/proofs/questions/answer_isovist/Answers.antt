use Rattle.std.proofs.Common.{◌∙◌, ◌≡◌, ◌∷◌, ◌++◌, [], ap, false, length, List, not, refl, subst, sym, true, ◌<◌, ℕ}
use Rattle.plan_spec.specs.Plan.{Plan}
use Rattle.sight_spec.specs.Scene.{scene_of}
use Rattle.sight_spec.specs.Isovist.{isovist_of}
use Rattle.sight_spec.specs.Sight.{is_open}
use Rattle.plan_spec.specs.declared.why.Why.TheVariants.{Range}
use Rattle.grammar_spec.specs.declared.script_line.Query.TheVariants.{Isovist}
use Rattle.report_spec.specs.declared.reason.Reason.TheVariants.{Closed, Edit as EditReason}
use Rattle.report_spec.specs.Replies.{answer}
use Rattle.report_spec.specs.Tables.{isovist_table, isovist_table_of}
use Rattle.plan_answers.proofs.Asked.{answered, closed_isovist, far_isovist, open_isovist, refused, seen_from}
use Rattle.plan_answers.proofs.Printed.{nothing}
use Rattle.plan_answers.proofs.questions.answer_isovist.Goals as goal

pub returns-then-not-in_range-clause-answers : goal.returns-then-not-in_range-clause-answers
returns-then-not-in_range-clause-answers g c =
    refused c.args.form (g.O.Sink.written c.args.out.now) (g.O.Sink.written c.put_refusal.new.out) c.args.session.now.plan c.args.number c.put_refusal.result (answer c.args.session.now.plan (Isovist c.args.p)) (EditReason Range) (far_isovist c.args.session.now.plan c.args.p (sym c.in_range.ensures.value ∙ c.if-not-in_range.true))
    c.put_refusal.ensures.answers

pub isovist-requires-clause-p_in : goal.isovist-requires-clause-p_in
isovist-requires-clause-p_in g c =
    c.in_range.ensures.meaning.0 c.if-not-in_range.false

pub isovist-requires-clause-seen : goal.isovist-requires-clause-seen
isovist-requires-clause-seen g c =
    c.scene.ensures ∙ ap scene_of (sym c.plan.ensures)

pub returns-in-Ok-clause-answers : goal.returns-in-Ok-clause-answers
returns-in-Ok-clause-answers g c =
    let seen = seen_from c.args.session.now.plan c.args.p c.in-Ok.seen (ap (λ (q : Plan). isovist_of q c.args.p) (sym c.plan.ensures) ∙ c.in-Ok.ensures.value) in
    answered c.args.form (g.O.Sink.written c.args.out.now) (g.O.Sink.written c.put_answer.new.out) c.args.session.now.plan c.args.number c.put_answer.result (answer c.args.session.now.plan (Isovist c.args.p)) (isovist_table c.in-Ok.seen) (isovist_table_of c.args.session.now.plan c.args.p)
    (ap isovist_table seen.1)
    (open_isovist c.args.session.now.plan c.args.p (sym c.in_range.ensures.value ∙ c.if-not-in_range.false) seen.0)
    c.put_answer.ensures.answers

pub returns-in-Err-Closed-clause-answers : goal.returns-in-Err-Closed-clause-answers
returns-in-Err-Closed-clause-answers g c =
    refused c.args.form (g.O.Sink.written c.args.out.now) (g.O.Sink.written c.put_refusal-in-Err-Closed.new.out) c.args.session.now.plan c.args.number c.put_refusal-in-Err-Closed.result (answer c.args.session.now.plan (Isovist c.args.p)) Closed (closed_isovist c.args.session.now.plan c.args.p (sym c.in_range.ensures.value ∙ c.if-not-in_range.false)
    (ap (λ (q : Plan). is_open q c.args.p) (sym c.plan.ensures) ∙ c.in-Err-Closed.ensures.closed.0 c.in-Err-Closed.field-0-is))
    c.put_refusal-in-Err-Closed.ensures.answers

pub returns-in-Err-NoMemory-clause-answers : goal.returns-in-Err-NoMemory-clause-answers
returns-in-Err-NoMemory-clause-answers g c =
    nothing _ _

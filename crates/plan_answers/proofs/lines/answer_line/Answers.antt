use Rattle.std.proofs.Common.{None, Some, refl}
use Rattle.grammar_spec.specs.declared.text_why.TextWhy.TheVariants.{Long}
use Rattle.report_spec.specs.declared.reason.Reason.TheVariants.{Text as TextReason}
use Rattle.report_spec.specs.Replies.{refusal, step_by}
use Rattle.plan_text.specs.Readings.{reading_of_shown}
use Rattle.plan_answers.proofs.Shown.{leaves_step, shown_leaves, shown_prefix, shown_refused, shown_written, step_long, step_shown}
use Rattle.plan_answers.proofs.Keeping.{keeps_itself}
use Rattle.plan_answers.proofs.lines.answer_line.Goals as goal

pub returns-in-Some-clause-written : goal.returns-in-Some-clause-written
returns-in-Some-clause-written g c =
    rw c.in-Some.is (shown_written c.args.form (g.O.Sink.written c.args.out.now) (g.O.Sink.written c.answer_shown.new.out) c.args.session.now.plan c.args.number (Some c.in-Some.bytes.now)
    (step_by c.args.session.now.plan c.args.number (reading_of_shown c.in-Some.bytes.now)) c.answer_shown.result
    (step_shown c.shown_lines_are_read.ensures.shown c.args.session.now.plan c.args.number c.in-Some.bytes.now) c.answer_shown.ensures.answers)

pub returns-in-Some-clause-leaves : goal.returns-in-Some-clause-leaves
returns-in-Some-clause-leaves g c =
    rw c.in-Some.is (shown_leaves c.answer_shown.new.session.plan c.args.session.now.plan c.args.number (Some c.in-Some.bytes.now) (step_by c.args.session.now.plan c.args.number (reading_of_shown c.in-Some.bytes.now)) c.answer_shown.result
    (step_shown c.shown_lines_are_read.ensures.shown c.args.session.now.plan c.args.number c.in-Some.bytes.now) c.answer_shown.ensures.leaves)

pub returns-in-Some-clause-refused : goal.returns-in-Some-clause-refused
returns-in-Some-clause-refused g c =
    rw c.in-Some.is (shown_refused c.args.form (g.O.Sink.written c.args.out.now) (g.O.Sink.written c.answer_shown.new.out) c.args.session.now.plan c.args.number (Some c.in-Some.bytes.now)
    (step_by c.args.session.now.plan c.args.number (reading_of_shown c.in-Some.bytes.now)) c.answer_shown.result
    (step_shown c.shown_lines_are_read.ensures.shown c.args.session.now.plan c.args.number c.in-Some.bytes.now) c.answer_shown.ensures.answers)

pub returns-in-Some-clause-prefix : goal.returns-in-Some-clause-prefix
returns-in-Some-clause-prefix g c =
    rw c.in-Some.is (shown_prefix c.args.form (g.O.Sink.written c.args.out.now) (g.O.Sink.written c.answer_shown.new.out) c.args.session.now.plan c.args.number (Some c.in-Some.bytes.now)
    (step_by c.args.session.now.plan c.args.number (reading_of_shown c.in-Some.bytes.now)) c.answer_shown.result
    (step_shown c.shown_lines_are_read.ensures.shown c.args.session.now.plan c.args.number c.in-Some.bytes.now) c.answer_shown.ensures.answers)

pub returns-in-None-clause-written : goal.returns-in-None-clause-written
returns-in-None-clause-written g c =
    rw c.in-None.is (shown_written c.args.form (g.O.Sink.written c.args.out.now) (g.O.Sink.written c.put_refusal.new.out) c.args.session.now.plan c.args.number None
    (refusal c.args.session.now.plan c.args.number (TextReason Long)) c.put_refusal.result
    (step_long c.shown_lines_are_read.ensures.long c.args.session.now.plan c.args.number) c.put_refusal.ensures.answers)

pub returns-in-None-clause-leaves : goal.returns-in-None-clause-leaves
returns-in-None-clause-leaves g c =
    rw c.in-None.is (shown_leaves c.args.session.now.plan c.args.session.now.plan c.args.number None (refusal c.args.session.now.plan c.args.number (TextReason Long)) c.put_refusal.result
    (step_long c.shown_lines_are_read.ensures.long c.args.session.now.plan c.args.number) (leaves_step _ _ (refusal c.args.session.now.plan c.args.number (TextReason Long)) c.put_refusal.result refl))

pub returns-in-None-clause-refused : goal.returns-in-None-clause-refused
returns-in-None-clause-refused g c =
    rw c.in-None.is (shown_refused c.args.form (g.O.Sink.written c.args.out.now) (g.O.Sink.written c.put_refusal.new.out) c.args.session.now.plan c.args.number None
    (refusal c.args.session.now.plan c.args.number (TextReason Long)) c.put_refusal.result
    (step_long c.shown_lines_are_read.ensures.long c.args.session.now.plan c.args.number) c.put_refusal.ensures.answers)

pub returns-in-None-clause-prefix : goal.returns-in-None-clause-prefix
returns-in-None-clause-prefix g c =
    rw c.in-None.is (shown_prefix c.args.form (g.O.Sink.written c.args.out.now) (g.O.Sink.written c.put_refusal.new.out) c.args.session.now.plan c.args.number None
    (refusal c.args.session.now.plan c.args.number (TextReason Long)) c.put_refusal.result
    (step_long c.shown_lines_are_read.ensures.long c.args.session.now.plan c.args.number) c.put_refusal.ensures.answers)

pub returns-in-Some-clause-answers : goal.returns-in-Some-clause-answers
returns-in-Some-clause-answers g c = rw c.in-Some.is c.answer_shown.ensures.answers

pub returns-in-Some-clause-after : goal.returns-in-Some-clause-after
returns-in-Some-clause-after g c = rw c.in-Some.is c.answer_shown.ensures.leaves

pub returns-in-None-clause-answers : goal.returns-in-None-clause-answers
returns-in-None-clause-answers g c = rw c.in-None.is c.put_refusal.ensures.answers

pub returns-in-None-clause-after : goal.returns-in-None-clause-after
returns-in-None-clause-after g c = rw c.in-None.is (leaves_step _ _ (refusal c.args.session.now.plan c.args.number (TextReason Long)) c.put_refusal.result refl)

pub returns-in-Some-clause-keeps : goal.returns-in-Some-clause-keeps
returns-in-Some-clause-keeps g c =
    rw c.in-Some.is c.answer_shown.ensures.keeps

pub returns-in-None-clause-keeps : goal.returns-in-None-clause-keeps
returns-in-None-clause-keeps g c =
    rw c.in-None.is (keeps_itself _)

use Rattle.std.proofs.Common.{◌∙◌, refl}
use Rattle.report_spec.specs.Replies.{answer, query_step}
use Rattle.plan_answers.proofs.Printed.{no_record}
use Rattle.plan_answers.proofs.Shown.{leaves_step}
use Rattle.plan_answers.proofs.Stepped.{question_keeps}
use Rattle.plan_answers.proofs.Keeping.{keeps_itself}
use Rattle.plan_answers.proofs.lines.answer_read.Goals as goal

pub returns-in-Blank-clause-answers : goal.returns-in-Blank-clause-answers
returns-in-Blank-clause-answers g c =
    rw c.in-Blank.is (no_record (g.O.Sink.written c.args.out.now) c.args.form, refl)

pub returns-in-Edit-clause-answers : goal.returns-in-Edit-clause-answers
returns-in-Edit-clause-answers g c =
    rw c.in-Edit.is c.answer_edit.ensures.answers

pub returns-in-Edit-clause-leaves : goal.returns-in-Edit-clause-leaves
returns-in-Edit-clause-leaves g c =
    rw c.in-Edit.is c.answer_edit.ensures.leaves

pub returns-in-Query-clause-answers : goal.returns-in-Query-clause-answers
returns-in-Query-clause-answers g c =
    rw c.in-Query.is c.answer_query.ensures.answers

pub returns-in-Query-clause-leaves : goal.returns-in-Query-clause-leaves
returns-in-Query-clause-leaves g c =
    rw c.in-Query.is
    (leaves_step _ _ (query_step c.args.session.now.plan c.args.number (answer c.args.session.now.plan c.in-Query.query)) c.answer_query.result
    (c.answer_query.ensures.plan
    ∙ question_keeps c.args.session.now.plan c.args.number (answer c.args.session.now.plan c.in-Query.query)))

pub returns-in-Blank-clause-keeps : goal.returns-in-Blank-clause-keeps
returns-in-Blank-clause-keeps g c =
    rw c.in-Blank.is (keeps_itself _)

pub returns-in-Edit-clause-keeps : goal.returns-in-Edit-clause-keeps
returns-in-Edit-clause-keeps g c =
    rw c.in-Edit.is c.answer_edit.ensures.keeps

pub returns-in-Query-clause-keeps : goal.returns-in-Query-clause-keeps
returns-in-Query-clause-keeps g c =
    rw c.in-Query.is c.answer_query.ensures.keeps

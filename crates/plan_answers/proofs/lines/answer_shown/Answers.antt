use Rattle.std.proofs.Common.{refl}
use Rattle.report_spec.specs.declared.reason.Reason.TheVariants.{Text as TextReason}
use Rattle.report_spec.specs.Replies.{refusal}
use Rattle.plan_answers.proofs.Printed.{nothing}
use Rattle.plan_answers.proofs.Shown.{leaves_step}
use Rattle.plan_answers.proofs.Stepped.{line_leaves, line_replied, read_badly}
use Rattle.plan_answers.proofs.Keeping.{keeps_read, keeps_unread}
use Rattle.plan_answers.proofs.lines.answer_shown.Goals as goal

pub returns-in-Ok-clause-answers : goal.returns-in-Ok-clause-answers
returns-in-Ok-clause-answers g c =
    line_replied _ _ _ _ _ _ _ _ c.in-Ok.ensures.reads c.answer_read.ensures.answers

pub returns-in-Ok-clause-leaves : goal.returns-in-Ok-clause-leaves
returns-in-Ok-clause-leaves g c =
    line_leaves _ _ _ c.answer_read.result _ _ c.in-Ok.ensures.reads c.answer_read.ensures.leaves

pub returns-in-Err-Bad-clause-answers : goal.returns-in-Err-Bad-clause-answers
returns-in-Err-Bad-clause-answers g c =
    line_replied _ _ _ _ _ _ _ _ (read_badly _ c.in-Err-Bad.field-0 c.in-Err-Bad.why c.in-Err-Bad.field-0-is c.in-Err-Bad.ensures.reads)
    c.put_refusal.ensures.answers

pub returns-in-Err-Bad-clause-leaves : goal.returns-in-Err-Bad-clause-leaves
returns-in-Err-Bad-clause-leaves g c =
    line_leaves _ _ _ c.put_refusal.result _ _ (read_badly _ c.in-Err-Bad.field-0 c.in-Err-Bad.why c.in-Err-Bad.field-0-is c.in-Err-Bad.ensures.reads)
    (leaves_step _ _ (refusal c.args.session.now.plan c.args.number (TextReason c.in-Err-Bad.why)) c.put_refusal.result refl)

pub returns-in-Err-NoMemory-clause-answers : goal.returns-in-Err-NoMemory-clause-answers
returns-in-Err-NoMemory-clause-answers g c =
    nothing _ _

pub returns-in-Ok-clause-keeps : goal.returns-in-Ok-clause-keeps
returns-in-Ok-clause-keeps g c =
    keeps_read _ _ _ _ c.in-Ok.ensures.reads c.answer_read.ensures.keeps

pub returns-in-Err-Bad-clause-keeps : goal.returns-in-Err-Bad-clause-keeps
returns-in-Err-Bad-clause-keeps g c =
    keeps_unread _ _

pub returns-in-Err-NoMemory-clause-keeps : goal.returns-in-Err-NoMemory-clause-keeps
returns-in-Err-NoMemory-clause-keeps g c =
    keeps_unread _ _

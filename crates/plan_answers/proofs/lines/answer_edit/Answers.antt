use Rattle.std.proofs.Common.{◌≡◌, Some, ap, inl}
use Rattle.plan_spec.specs.Edits.{why_not_edit}
use Rattle.plan_edit.specs.Sessions.{Session}
use Rattle.report_spec.specs.Replies.{edit_step}
use Rattle.plan_answers.proofs.Printed.{nothing}
use Rattle.plan_answers.proofs.Shown.{leaves_step}
use Rattle.plan_answers.proofs.Stepped.{cause_is, edit_made, edit_refused, edit_replied}
use Rattle.plan_answers.proofs.Keeping.{keeps_same, keeps_unmade}
use Rattle.plan_answers.proofs.lines.answer_edit.Goals as goal

pub returns-in-Ok-clause-answers : goal.returns-in-Ok-clause-answers
returns-in-Ok-clause-answers g c =
    edit_replied _ _ _ _ _ _ _ _ _ c.in-Ok.ensures.valid c.put_done.ensures.answers

pub returns-in-Ok-clause-leaves : goal.returns-in-Ok-clause-leaves
returns-in-Ok-clause-leaves g c =
    leaves_step _ _ (edit_step c.args.session.now.plan c.args.number c.args.edit.now (why_not_edit c.args.session.now.plan c.args.edit.now)) c.put_done.result
    (edit_made _ _ _ _ _ c.in-Ok.ensures.valid (ap (λ (s : Session). s.plan) c.in-Ok.ensures.session))

pub returns-in-Err-Refused-clause-answers : goal.returns-in-Err-Refused-clause-answers
returns-in-Err-Refused-clause-answers g c =
    edit_replied _ _ _ _ _ _ _ _ _
    (cause_is c.in-Err-Refused.field-0 c.in-Err-Refused.why (λ w. why_not_edit c.args.session.now.plan c.args.edit.now ≡ Some w)
    c.in-Err-Refused.field-0-is c.in-Err-Refused.ensures.refused)
    c.put_refusal.ensures.answers

pub returns-in-Err-Refused-clause-leaves : goal.returns-in-Err-Refused-clause-leaves
returns-in-Err-Refused-clause-leaves g c =
    leaves_step _ _ (edit_step c.args.session.now.plan c.args.number c.args.edit.now (why_not_edit c.args.session.now.plan c.args.edit.now)) c.put_refusal.result
    (edit_refused _ _ _ _ _ _
    (cause_is c.in-Err-Refused.field-0 c.in-Err-Refused.why (λ w. why_not_edit c.args.session.now.plan c.args.edit.now ≡ Some w)
    c.in-Err-Refused.field-0-is c.in-Err-Refused.ensures.refused)
    (ap (λ (s : Session). s.plan) c.in-Err-Refused.ensures.refused_stays))

pub returns-in-Err-NoMemory-clause-answers : goal.returns-in-Err-NoMemory-clause-answers
returns-in-Err-NoMemory-clause-answers g c =
    nothing _ _

pub returns-in-Err-NoMemory-clause-leaves : goal.returns-in-Err-NoMemory-clause-leaves
returns-in-Err-NoMemory-clause-leaves g c =
    inl (ap (λ (s : Session). s.plan) c.in-Err-NoMemory.ensures.refused_stays)

pub returns-in-Ok-clause-keeps : goal.returns-in-Ok-clause-keeps
returns-in-Ok-clause-keeps g c =
    keeps_same _ _ c.in-Ok.ensures.session

pub returns-in-Err-Refused-clause-keeps : goal.returns-in-Err-Refused-clause-keeps
returns-in-Err-Refused-clause-keeps g c =
    keeps_unmade _ _ _ c.in-Err-Refused.ensures.refused_stays

pub returns-in-Err-NoMemory-clause-keeps : goal.returns-in-Err-NoMemory-clause-keeps
returns-in-Err-NoMemory-clause-keeps g c =
    keeps_unmade _ _ _ c.in-Err-NoMemory.ensures.refused_stays

use Rattle.std.proofs.Common.{◌≡◌, Some}
use Rattle.plan_spec.specs.Edits.{why_not_edit}
use Rattle.desk_core.proofs.Followed.{cause_is, edit_made, edit_refused}
use Rattle.desk_core.proofs.changes.make_edit.Goals as goal

pub returns-in-Ok-clause-does : goal.returns-in-Ok-clause-does
returns-in-Ok-clause-does g c =
    edit_made c.args.undo.now _ _ c.args.number c.apply_edit.new.self _ _ _ _ c.args.edit.now _ c.note_of.result
    c.in-Ok.ensures.valid c.in-Ok.ensures.state c.ready_all.ensures.rooms c.ready_all.ensures.lists c.note_all.ensures.rooms
    c.note_all.ensures.lists c.note_of.ensures

pub returns-in-Err-Refused-clause-does : goal.returns-in-Err-Refused-clause-does
returns-in-Err-Refused-clause-does g c =
    edit_refused c.args.undo.now _ _ c.args.number c.apply_edit.new.self _ _ c.args.edit.now _ c.in-Err-Refused.why
    (cause_is c.in-Err-Refused.field-0 c.in-Err-Refused.why (λ w. why_not_edit c.args.undo.now.now c.args.edit.now ≡ Some w)
    c.in-Err-Refused.field-0-is c.in-Err-Refused.ensures.refused)
    c.in-Err-Refused.ensures.same_state c.ready_all.ensures.rooms c.ready_all.ensures.lists

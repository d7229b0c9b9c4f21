use Rattle.std.proofs.Common.{ap}
use Rattle.std.specs.Prelude.{Err}
use Rattle.plan_undo.specs.History.{undone}
use Rattle.plan_watch.specs.declared.note.NoteKind.TheVariants.{Undo}
use Rattle.desk_core.proofs.Followed.{step_made, no_step}
use Rattle.desk_core.proofs.changes.step_back.Goals as goal

pub returns-in-Ok-clause-does : goal.returns-in-Ok-clause-does
returns-in-Ok-clause-does g c =
    step_made c.args.undo.now _ _ c.args.number c.undo.new.self _ _ _ _ Undo c.in-Ok.name (undone c.args.undo.now)
    c.in-Ok.ensures.undone c.ready_all.ensures.rooms c.ready_all.ensures.lists c.note_all.ensures.rooms c.note_all.ensures.lists

pub returns-in-Err-Nothing-clause-does : goal.returns-in-Err-Nothing-clause-does
returns-in-Err-Nothing-clause-does g c =
    no_step c.args.undo.now _ _ c.args.number c.undo.new.self _ _ Undo (undone c.args.undo.now)
    (c.in-Err-Nothing.ensures.nothing (ap Err c.in-Err-Nothing.field-0-is)) c.in-Err-Nothing.ensures.unchanged
    c.ready_all.ensures.rooms c.ready_all.ensures.lists

use Rattle.std.proofs.Common.{ap, ◌∙◌}
use Rattle.plan_back.specs.Backs.{edit_name}
use Rattle.plan_undo.specs.History.{changed, edited}
use Rattle.plan_undo.specs.Ways.{IsWayBack, history_of}
use Rattle.plan_undo.proofs.Changes.{kept_when_changed, history_when_changed}
use Rattle.plan_undo.proofs.undo.UndoEditor.apply_edit.Goals as goal

pub invariant_of-self-2 : goal.invariant_of-self-2
invariant_of-self-2 g c =
    let p = g.E.Editor.plan c.self.inside.editor in
    let q = g.E.Editor.plan c.apply_edit.new.self in
    let back : IsWayBack p q (edit_name c.args.edit.now) c.in_ok-other.other =
    rw c.in_ok-apply_edit.ensures.plan ((rw c.plan_now.ensures at c.in_ok-other.ensures) c.in_ok-apply_edit.ensures.valid) in
    rw (c.keep_way_back.ensures.past, c.keep_way_back.ensures.next)
    (kept_when_changed p q c.self.inside.past c.self.inside.next (edit_name c.args.edit.now) c.in_ok-other.other back c.self.invariant)

pub returns-clause-state : goal.returns-clause-state
unfolding edited
returns-clause-state g c =
    let p = g.E.Editor.plan c.self.inside.editor in
    let q = g.E.Editor.plan c.apply_edit.new.self in
    let name = edit_name c.args.edit.now in
    let back : IsWayBack p q name c.in_ok-other.other =
    rw c.in_ok-apply_edit.ensures.plan ((rw c.plan_now.ensures at c.in_ok-other.ensures) c.in_ok-apply_edit.ensures.valid) in
    rw (c.keep_way_back.ensures.past, c.keep_way_back.ensures.next)
    (history_when_changed p q c.self.inside.past c.self.inside.next name c.in_ok-other.other back
    ∙ ap (changed (history_of p c.self.inside.past c.self.inside.next) name) c.in_ok-apply_edit.ensures.plan
    ∙ ap (λ h. edited h c.args.edit.now) c.self.view_is)

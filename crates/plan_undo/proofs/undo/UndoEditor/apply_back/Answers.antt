use Rattle.std.proofs.Common.{ap, ◌∙◌}
use Rattle.plan_back.specs.Backs.{name_of}
use Rattle.plan_undo.specs.History.{changed, backed}
use Rattle.plan_undo.specs.Ways.{IsWayBack, history_of}
use Rattle.plan_undo.proofs.Changes.{kept_when_changed, history_when_changed}
use Rattle.plan_undo.proofs.undo.UndoEditor.apply_back.Goals as goal

pub invariant_of-self-2 : goal.invariant_of-self-2
invariant_of-self-2 g c =
    let p = g.E.Editor.plan c.self.inside.editor in
    let q = g.E.Editor.plan c.apply_back.new.self in
    let back : IsWayBack p q (name_of c.args.back.now) c.in_ok-other.other =
    rw c.in_ok-apply_back.ensures.plan ((rw c.plan_now.ensures at c.in_ok-other.ensures) c.in_ok-apply_back.ensures.valid) in
    rw (c.keep_way_back.ensures.past, c.keep_way_back.ensures.next)
    (kept_when_changed p q c.self.inside.past c.self.inside.next (name_of c.args.back.now) c.in_ok-other.other back c.self.invariant)

pub returns-clause-state : goal.returns-clause-state
unfolding backed
returns-clause-state g c =
    let p = g.E.Editor.plan c.self.inside.editor in
    let q = g.E.Editor.plan c.apply_back.new.self in
    let name = name_of c.args.back.now in
    let back : IsWayBack p q name c.in_ok-other.other =
    rw c.in_ok-apply_back.ensures.plan ((rw c.plan_now.ensures at c.in_ok-other.ensures) c.in_ok-apply_back.ensures.valid) in
    rw (c.keep_way_back.ensures.past, c.keep_way_back.ensures.next)
    (history_when_changed p q c.self.inside.past c.self.inside.next name c.in_ok-other.other back
    ∙ ap (changed (history_of p c.self.inside.past c.self.inside.next) name) c.in_ok-apply_back.ensures.plan
    ∙ ap (λ h. backed h c.args.back.now) c.self.view_is)

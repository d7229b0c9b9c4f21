use Rattle.std.proofs.Common.{sym, ap, ◌∙◌}
use Rattle.plan_back.proofs.Accepted.{if_ok}
use Rattle.plan_undo.specs.History.{undone}
use Rattle.plan_undo.proofs.Steps.{kept_after_undo, history_when_undone, nothing_to_undo, no_past}
use Rattle.plan_undo.proofs.undo.Undo.undo.Goals as goal

pub invariant_of-self : goal.invariant_of-self
invariant_of-self g c =
    kept_after_undo (g.E.Editor.plan c.self.inside.editor) (g.E.Editor.plan c.step.new.editor) c.self.inside.past c.step.new.from c.self.inside.next c.step.new.to
    c.step.ensures.from_capacity c.step.ensures.to_capacity c.self.invariant c.step.result c.step.ensures.step c.step.ensures.same_plan c.step.ensures.same_from c.step.ensures.same_to

pub returns-clause-undone : goal.returns-clause-undone
returns-clause-undone g c =
    if_ok _ _
    (λ name s. ap undone (sym c.self.view_is)
    ∙ history_when_undone (g.E.Editor.plan c.self.inside.editor) (g.E.Editor.plan c.step.new.editor) c.self.inside.past c.step.new.from c.self.inside.next c.step.new.to name
    c.step.ensures.from_capacity c.step.ensures.to_capacity c.self.invariant s)
    c.step.result c.step.ensures.step

pub returns-clause-nothing : goal.returns-clause-nothing
returns-clause-nothing g c =
    λ e. ap undone (sym c.self.view_is) ∙ nothing_to_undo (g.E.Editor.plan c.self.inside.editor) c.self.inside.past c.self.inside.next (c.step.ensures.nothing e)

pub returns-clause-something : goal.returns-clause-something
returns-clause-something g c =
    λ e. c.step.ensures.something (no_past (g.E.Editor.plan c.self.inside.editor) c.self.inside.past c.self.inside.next (ap undone c.self.view_is ∙ e))

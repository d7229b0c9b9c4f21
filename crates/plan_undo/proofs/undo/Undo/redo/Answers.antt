use Rattle.std.proofs.Common.{sym, ap, ◌∙◌}
use Rattle.plan_back.proofs.Accepted.{if_ok}
use Rattle.plan_undo.specs.History.{redone}
use Rattle.plan_undo.proofs.Steps.{kept_after_redo, history_when_redone, nothing_to_redo, no_next}
use Rattle.plan_undo.proofs.undo.Undo.redo.Goals as goal

pub invariant_of-self : goal.invariant_of-self
invariant_of-self g c =
    kept_after_redo (g.E.Editor.plan c.self.inside.editor) (g.E.Editor.plan c.step.new.editor) c.self.inside.past c.step.new.to c.self.inside.next c.step.new.from
    c.step.ensures.to_capacity c.step.ensures.from_capacity c.self.invariant c.step.result c.step.ensures.step c.step.ensures.same_plan c.step.ensures.same_from c.step.ensures.same_to

pub returns-clause-redone : goal.returns-clause-redone
returns-clause-redone g c =
    if_ok _ _
    (λ name s. ap redone (sym c.self.view_is)
    ∙ history_when_redone (g.E.Editor.plan c.self.inside.editor) (g.E.Editor.plan c.step.new.editor) c.self.inside.past c.step.new.to c.self.inside.next c.step.new.from name
    c.step.ensures.to_capacity c.step.ensures.from_capacity c.self.invariant s)
    c.step.result c.step.ensures.step

pub returns-clause-nothing : goal.returns-clause-nothing
returns-clause-nothing g c =
    λ e. ap redone (sym c.self.view_is) ∙ nothing_to_redo (g.E.Editor.plan c.self.inside.editor) c.self.inside.past c.self.inside.next (c.step.ensures.nothing e)

pub returns-clause-something : goal.returns-clause-something
returns-clause-something g c =
    λ e. c.step.ensures.something (no_next (g.E.Editor.plan c.self.inside.editor) c.self.inside.past c.self.inside.next (ap redone c.self.view_is ∙ e))

use Rattle.std.proofs.Common.{◌∙◌, ap, sym}
use Rattle.sight_spec.specs.Scene.{scene_of}
use Rattle.plan_edit.proofs.Kept.{kept_anew, kept_over_route, no_refusal, session_changed, session_over_route}
use Rattle.plan_edit.proofs.session.Session.apply.Goals as goal

pub invariant_of-self : goal.invariant_of-self
invariant_of-self c =
    kept_over_route _ _ _ _ _ _ _ _ c.in_ok-plan.ensures.plan (sym c.is_of_route.ensures ∙ c.if-is_of_route.true)
    c.self.invariant

pub invariant_of-self-2 : goal.invariant_of-self-2
invariant_of-self-2 c =
    kept_anew (λ v. v.items) c.replace-before.new.dest _ _ _ _ _ c.replace-graph.ensures.after
    (c.in_ok-scene.ensures ∙ ap scene_of (sym c.replace-before.ensures.after)) c.past_of.ensures
    c.in_ok-lines.ensures.lines c.in_ok-lines.ensures.at_most c.self.invariant.some_workers
    c.self.invariant.few_workers

pub returns-clause-session : goal.returns-clause-session
returns-clause-session c =
    rw (← c.self.view_is)
    (session_changed _ _ c.replace-before.new.dest _ c.replace-graph.new.dest _
    (sym c.is_of_route.ensures ∙ c.if-is_of_route.false)
    (c.replace-before.ensures.after ∙ c.in_ok-plan.ensures.plan)
    (c.in_ok-scene.ensures ∙ ap scene_of (sym c.replace-before.ensures.after)) c.replace-graph.ensures.after
    c.in_ok-lines.ensures.kept)

pub returns-then-is_of_route-clause-session : goal.returns-then-is_of_route-clause-session
returns-then-is_of_route-clause-session c =
    rw (← c.self.view_is)
    (session_over_route _ _ _ (sym c.is_of_route.ensures ∙ c.if-is_of_route.true) c.in_ok-plan.ensures.plan)

pub returns-in_err-lines-clause-refused : goal.returns-in_err-lines-clause-refused
returns-in_err-lines-clause-refused c =
    no_refusal c.from_residual-in_err-lines.result _ c.from_residual-in_err-lines.ensures.1

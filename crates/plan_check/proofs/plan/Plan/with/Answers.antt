use Rattle.std.specs.Prelude.{IsTrue}
use Rattle.std.proofs.Common.{sym, subst, ◌∙◌}
use Rattle.plan_spec.specs.Accepted.{is_sound}
use Rattle.plan_laws.proofs.Edits.Refused.{edited_is_sound}
use Rattle.plan_check.proofs.plan.Plan.with.Goals as goal

pub of_sound-requires : goal.of_sound-requires
of_sound-requires c =
    subst (λ p. IsTrue (is_sound p)) (sym c.in_ok-parts.ensures)
    (edited_is_sound c.self.inside.draft c.args.edit.now c.self.invariant (sym c.in_ok-why.ensures ∙ c.in_default.is))

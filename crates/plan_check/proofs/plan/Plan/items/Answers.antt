use Rattle.std.proofs.Common.{ap, ◌∙◌}
use Rattle.plan_spec.specs.Refusals.{check_of}
use Rattle.plan_laws.proofs.Again.{checked_again}
use Rattle.plan_check.proofs.plan.Plan.items.Goals as goal

pub returns-clause-again : goal.returns-clause-again
returns-clause-again c =
    rw (← c.self.view_is) (ap check_of c.in_ok-items.ensures ∙ checked_again c.self.inside.draft c.self.invariant)

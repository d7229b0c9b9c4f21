use Rattle.std.proofs.Common.{length}
use Rattle.plan_text.proofs.PlanRead.{IsRead}
use Rattle.plan_text.proofs.plans.read_plan.Given as goal

abbrev pub invariant-lines : goal.invariant-lines
invariant-lines l = IsRead l.bytes l.draft l.number l.rest

abbrev pub decreases-lines : goal.decreases-lines
decreases-lines l = length l.rest

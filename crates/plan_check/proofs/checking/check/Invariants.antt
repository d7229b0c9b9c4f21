use Rattle.plan_check.proofs.Underway.{IsUnderway}
use Rattle.plan_check.proofs.checking.check.Given as goal

abbrev pub invariant-loop-number : goal.invariant-loop-number
invariant-loop-number l = IsUnderway l.items l.number l.draft

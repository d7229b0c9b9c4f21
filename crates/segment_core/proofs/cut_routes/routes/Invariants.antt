use Rattle.std.proofs.Common.{◌≡◌, ◌++◌, drop}
use Rattle.segment_core.proofs.cut_routes.routes.Given as goal

abbrev pub invariant-loop-k : goal.invariant-loop-k
invariant-loop-k l = l.routes.items ++ drop l.k l.plan.routes ≡ l.plan.routes

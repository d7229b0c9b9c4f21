use Rattle.std.specs.Prelude.{◌≡◌, ◌++◌, drop, map}
use Rattle.plan_spec.specs.Plan.{route_item}
use Rattle.plan_check.proofs.plan_parts.push_routes.Given as goal

abbrev pub invariant-loop-k : goal.invariant-loop-k
invariant-loop-k l = l.items ++ map route_item (drop l.k l.draft.routes) ≡ l.initial.items ++ map route_item l.draft.routes

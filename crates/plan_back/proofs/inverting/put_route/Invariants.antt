use Rattle.std.specs.Prelude.{◌≡◌, drop}
use Rattle.plan_spec.specs.Plan.{is_route_named}
use Rattle.plan_back.specs.Places.{first_from}
use Rattle.plan_back.proofs.inverting.put_route.Given as goal

abbrev pub invariant-loop-k : goal.invariant-loop-k
invariant-loop-k l =
    first_from l.k (is_route_named l.name) (drop l.k l.plan.routes) ≡ first_from 0 (is_route_named l.name) l.plan.routes

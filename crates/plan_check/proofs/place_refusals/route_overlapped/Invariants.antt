use Rattle.std.specs.Prelude.{◌≡◌, drop}
use Rattle.plan_spec.specs.Refusals.{first_route, routes_overlapped}
use Rattle.plan_check.proofs.place_refusals.route_overlapped.Given as goal

abbrev pub invariant-loop-k : goal.invariant-loop-k
invariant-loop-k l =
    first_route (routes_overlapped l.from l.to (drop l.k l.draft.routes))
    ≡ first_route (routes_overlapped l.from l.to l.draft.routes)

-- The one route of a name in a sound plan.
use Rattle.std.specs.Prelude.{◌≡◌, ℕ, true, false, not, List}
use Rattle.std.specs.List.{list_any}
use Rattle.std.specs.Str.{bytes_eq}
use Rattle.std.proofs.Common.{sym, ◌∙◌}
use Rattle.std.proofs.lemmas.Bool.{and_parts, not-true, false_from_ne_true, both_ways}
use Rattle.std.proofs.lemmas.Slice.Eq.{bytes_eq-Decides}
use Rattle.plan_spec.specs.declared.item.Route.{Route}
use Rattle.plan_spec.specs.Plan.{Plan, is_route_named}
use Rattle.plan_spec.specs.Accepted.{do_segments_overlap, routes_apart, is_sound}
use Rattle.list_laws.proofs.Single.{Single, single}
use Rattle.plan_laws.proofs.Parts.{parts_of_sound, parts_of_routes}

-- a route of a name is the only one in a sound plan
pub route_alone : (plan : Plan) (name : List ℕ) → is_sound plan ≡ true
    → list_any (is_route_named name) plan.routes ≡ true → Single (is_route_named name) plan.routes
route_alone plan name sound there =
    single (is_route_named name) routes_apart only plan.routes
    (parts_of_routes plan (parts_of_sound plan sound).routes).apart there
  where
    only : (r q : Route) → routes_apart r q ≡ true → is_route_named name r ≡ true → is_route_named name q ≡ false
    only r q e here =
        false_from_ne_true (bytes_eq q.name name)
        (λ there. both_ways (bytes_eq r.name q.name)
        (not-true (bytes_eq r.name q.name)
        (and_parts (not (do_segments_overlap r.from r.to q.from q.to)) (not (bytes_eq r.name q.name)) e).1)
        ((bytes_eq-Decides r.name q.name).1
        ((bytes_eq-Decides r.name name).0 here ∙ sym ((bytes_eq-Decides q.name name).0 there))))

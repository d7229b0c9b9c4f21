-- One more route.
use Rattle.std.specs.Prelude.{◌≡◌, ℕ, nat_le, Bool, false, not, ◌&&◌, List, [], ◌∷◌, ◌++◌, length, None, is_none}
use Rattle.std.specs.List.{list_all, list_any}
use Rattle.std.specs.Str.{bytes_eq}
use Rattle.std.proofs.Common.{refl, sym, ap, arith, ◌∙◌}
use Rattle.std.proofs.Math.Bool.{and_assoc, and_comm, not-not, and-true}
use Rattle.plane_spec.specs.declared.Point.{Point}
use Rattle.plan_spec.specs.declared.item.Route.{Route}
use Rattle.plan_spec.specs.declared.item.Item.TheVariants.{Route as RouteItem}
use Rattle.plan_spec.specs.declared.limits.TheConstants.{MAX_ROUTES}
use Rattle.plan_spec.specs.Plan.{Plan, route, with_routes, with_item, has_outer, is_route_named}
use Rattle.plan_spec.specs.Accepted.{is_proper_segment, do_segments_overlap, routes_apart, are_obstacles_sound, are_screens_sound, are_routes_sound, is_sound}
use Rattle.plan_spec.specs.Refusals.{why_not_route}
use Rattle.list_laws.proofs.Conditions.{and_left_comm}
use Rattle.list_laws.proofs.Tests.{list_all_push, list_all_and, list_all_not}
use Rattle.plan_laws.proofs.Pairs.{each_two_push}
use Rattle.plan_laws.proofs.Adding.Causes.{none_refuses, none_when, none_of_line, none_of_routes, outer_test_drops}
use Rattle.plan_laws.proofs.Adding.Limits.{limits_with_route}

-- each route stands apart from a new one where it overlaps none of them and has a name of its own
apart_from_each : (routes : List Route) (name : List ℕ) (from to : Point)
    → list_all (λ r. routes_apart r (route name from to)) routes
    ≡ (not (list_any (λ r. do_segments_overlap r.from r.to from to) routes) && not (list_any (is_route_named name) routes))
apart_from_each routes name from to =
    simp (list_all_and (λ r. not (do_segments_overlap r.from r.to from to)) (λ r. not (bytes_eq r.name name)) routes, list_all_not (λ r. do_segments_overlap r.from r.to from to) routes, list_all_not (is_route_named name) routes)

route_tests_last : (l l' e m n : Bool) → ((l && l') && (e && (m && n))) ≡ ((l && e) && (l' && (m && n)))
route_tests_last l l' e m n = simp (and_assoc, and_left_comm)

pub routes_with_route : (p : Plan) (name : List ℕ) (from to : Point)
    → are_routes_sound (with_routes p (p.routes ++ route name from to ∷ []))
    ≡ (are_routes_sound p && (is_proper_segment from to && (not (list_any (λ r. do_segments_overlap r.from r.to from to) p.routes) && not (list_any (is_route_named name) p.routes))))
unfolding are_routes_sound
routes_with_route p name from to =
    rw (
      list_all_push (λ r. is_proper_segment r.from r.to) p.routes (route name from to),
      each_two_push routes_apart p.routes (route name from to),
      apart_from_each p.routes name from to,
      route_tests_last,
    )

-- the obstacles and the screens aren't compared with routes
pub obstacles_with_routes : (p : Plan) (name : List ℕ) (from to : Point)
    → are_obstacles_sound (with_routes p (p.routes ++ route name from to ∷ [])) ≡ are_obstacles_sound p
unfolding are_obstacles_sound
obstacles_with_routes p name from to = refl

pub screens_with_routes : (p : Plan) (name : List ℕ) (from to : Point)
    → are_screens_sound (with_routes p (p.routes ++ route name from to ∷ [])) ≡ are_screens_sound p
unfolding are_screens_sound
screens_with_routes p name from to = refl

-- the new route passes each test for which it might be refused
pub fits_as_route : (p : Plan) (name : List ℕ) (from to : Point)
    → is_none (why_not_route p name from to)
    ≡ (has_outer p && (is_proper_segment from to && (not (list_any (is_route_named name) p.routes)
    && (not (nat_le MAX_ROUTES (length p.routes)) && not (list_any (λ r. do_segments_overlap r.from r.to from to) p.routes)))))
unfolding why_not_route
fits_as_route p name from to =
    rw none_refuses (simp (none_when, none_of_line, none_of_routes, not-not, and-true))

-- a route that isn't refused has a name of its own
pub new_route : (p : Plan) (name : List ℕ) (from to : Point)
    → why_not_route p name from to ≡ None → list_any (is_route_named name) p.routes ≡ false
new_route p name from to none =
    let fits = sym (fits_as_route p name from to) ∙ ap is_none none in
    grind arith

new_tests_last : (a o r w l m n f : Bool)
    → (a && (o && ((r && (l && (m && n))) && (w && f))))
    ≡ ((a && (o && (r && w))) && (l && (n && (f && m))))
new_tests_last a o r w l m n f = simp (and_assoc, and_left_comm, and_comm)

-- a plan with one more route is sound where the plan is and the route isn't refused
pub sound_with_route : (p : Plan) (name : List ℕ) (from to : Point)
    → is_sound (with_item p (RouteItem name from to)) ≡ (is_sound p && is_none (why_not_route p name from to))
unfolding is_sound with_item
sound_with_route p name from to =
    rw (fits_as_route p name from to, outer_test_drops, obstacles_with_routes p name from to, screens_with_routes p name from to, routes_with_route p name from to, limits_with_route p name from to, new_tests_last)

-- A sound plan stays sound where obstacles, screens or routes are removed.
use Rattle.std.specs.Prelude.{◌≡◌, ◌≤◌, nat_le, Bool, true, not, ◌&&◌, List, length, filter}
use Rattle.std.specs.List.{list_any, sum_by}
use Rattle.std.proofs.Common.{refl, arith}
use Rattle.std.proofs.lemmas.Bool.{and_from, le-leb, not-true, not_from_false}
use Rattle.std.proofs.lemmas.List.Sums.{length-filter, count_by-le-length}
use Rattle.std.proofs.lemmas.List.Filters.{sum_by-filter_both}
use Rattle.plan_spec.specs.declared.item.Screen.{Screen}
use Rattle.plan_spec.specs.declared.item.Route.{Route}
use Rattle.plan_spec.specs.declared.limits.TheConstants.{MAX_OBSTACLES, MAX_SCREENS, MAX_ROUTES, MAX_CORNERS}
use Rattle.plan_spec.specs.Plan.{Obstacle, Plan, with_obstacles, with_screens, with_routes, corner_count, corners_of_obstacle_count}
use Rattle.plan_spec.specs.Accepted.{is_polygon, is_proper_segment, lies_within, segment_lies_within, segment_meets_polygon, obstacles_apart, screens_apart, routes_apart, is_within_limits, is_sound}
use Rattle.plan_spec.specs.Ranges.{IsWithinLimits}
use Rattle.list_laws.proofs.Tests.{list_all_filter, list_any_filter, list_all_weaker}
use Rattle.plan_laws.proofs.Pairs.{each_two_filter}
use Rattle.plan_laws.proofs.Parts.{parts_of_sound, sound_from_parts, parts_of_obstacles, obstacles_from_parts, parts_of_screens, screens_from_parts, parts_of_routes, routes_from_parts}
use Rattle.plan_laws.proofs.Ranges.{limits_are}

-- ---- limits

pub within_limits : (p : Plan) → IsWithinLimits p → is_within_limits p ≡ true
unfolding is_within_limits
within_limits p l =
    let obstacles = nat_le (length p.obstacles) MAX_OBSTACLES in
    let screens = nat_le (length p.screens) MAX_SCREENS in
    let routes = nat_le (length p.routes) MAX_ROUTES in
    let corners = nat_le (corner_count p) MAX_CORNERS in
    and_from (obstacles && screens) (routes && corners)
    (and_from obstacles screens (le-leb _ _ l.obstacles) (le-leb _ _ l.screens))
    (and_from routes corners (le-leb _ _ l.routes) (le-leb _ _ l.corners))

fewer : {X : Type 0} (q : X → Bool) (xs : List X) → length (filter q xs) ≤ length xs
fewer q xs = omega (arith, length-filter q xs, count_by-le-length q xs)

fewer_corners : (q : Obstacle → Bool) (obstacles : List Obstacle) → sum_by corners_of_obstacle_count (filter q obstacles) ≤ sum_by corners_of_obstacle_count obstacles
fewer_corners q obstacles = omega (arith, sum_by-filter_both q (λ o. not (q o)) (λ _. refl) corners_of_obstacle_count obstacles)

-- ---- obstacles

pub sound_with_fewer_obstacles : (p : Plan) (q : Obstacle → Bool) → is_sound p ≡ true → is_sound (with_obstacles p (filter q p.obstacles)) ≡ true
sound_with_fewer_obstacles p q h =
    let parts = parts_of_sound p h in
    let obstacles = parts_of_obstacles p parts.obstacles in
    let screens = parts_of_screens p parts.screens in
    let routes = parts_of_routes p parts.routes in
    let limits = limits_are p parts.limits in
    let kept : Plan = with_obstacles p (filter q p.obstacles) in
    sound_from_parts kept (record {
      outer = parts.outer;
      grid = parts.grid;
      obstacles = obstacles_from_parts kept (record {
        polygons = list_all_filter (λ o. is_polygon o.points && lies_within p.outer o.points) q p.obstacles obstacles.polygons;
        apart = each_two_filter obstacles_apart q p.obstacles obstacles.apart;
      });
      screens = screens_from_parts kept (record {
        lines = screens.lines;
        clear =
            list_all_weaker (λ s. not (list_any (λ o. segment_meets_polygon s.from s.to o.points) p.obstacles)) (λ s. not (list_any (λ o. segment_meets_polygon s.from s.to o.points) (filter q p.obstacles)))
            (λ s e. not_from_false (list_any (λ o. segment_meets_polygon s.from s.to o.points) (filter q p.obstacles))
            (list_any_filter (λ o. segment_meets_polygon s.from s.to o.points) q p.obstacles (not-true _ e)))
            p.screens screens.clear;
        apart = screens.apart;
      });
      routes = routes_from_parts kept (record { lines = routes.lines; apart = routes.apart });
      limits = within_limits kept (record {
        obstacles = omega (arith, limits.obstacles, fewer q p.obstacles);
        screens = limits.screens;
        routes = limits.routes;
        corners = omega (arith, limits.corners, fewer_corners q p.obstacles);
      });
    })

-- ---- screens

pub sound_with_fewer_screens : (p : Plan) (q : Screen → Bool) → is_sound p ≡ true → is_sound (with_screens p (filter q p.screens)) ≡ true
sound_with_fewer_screens p q h =
    let parts = parts_of_sound p h in
    let obstacles = parts_of_obstacles p parts.obstacles in
    let screens = parts_of_screens p parts.screens in
    let routes = parts_of_routes p parts.routes in
    let limits = limits_are p parts.limits in
    let kept : Plan = with_screens p (filter q p.screens) in
    sound_from_parts kept (record {
      outer = parts.outer;
      grid = parts.grid;
      obstacles = obstacles_from_parts kept (record { polygons = obstacles.polygons; apart = obstacles.apart });
      screens = screens_from_parts kept (record {
        lines = list_all_filter (λ s. is_proper_segment s.from s.to && segment_lies_within p.outer s.from s.to) q p.screens screens.lines;
        clear = list_all_filter (λ s. not (list_any (λ o. segment_meets_polygon s.from s.to o.points) p.obstacles)) q p.screens screens.clear;
        apart = each_two_filter screens_apart q p.screens screens.apart;
      });
      routes = routes_from_parts kept (record { lines = routes.lines; apart = routes.apart });
      limits = within_limits kept (record {
        obstacles = limits.obstacles;
        screens = omega (arith, limits.screens, fewer q p.screens);
        routes = limits.routes;
        corners = omega (arith, limits.corners, fewer q p.screens);
      });
    })

-- ---- routes

pub sound_with_fewer_routes : (p : Plan) (q : Route → Bool) → is_sound p ≡ true → is_sound (with_routes p (filter q p.routes)) ≡ true
sound_with_fewer_routes p q h =
    let parts = parts_of_sound p h in
    let obstacles = parts_of_obstacles p parts.obstacles in
    let screens = parts_of_screens p parts.screens in
    let routes = parts_of_routes p parts.routes in
    let limits = limits_are p parts.limits in
    let kept : Plan = with_routes p (filter q p.routes) in
    sound_from_parts kept (record {
      outer = parts.outer;
      grid = parts.grid;
      obstacles = obstacles_from_parts kept (record { polygons = obstacles.polygons; apart = obstacles.apart });
      screens = screens_from_parts kept (record { lines = screens.lines; clear = screens.clear; apart = screens.apart });
      routes = routes_from_parts kept (record {
        lines = list_all_filter (λ r. is_proper_segment r.from r.to) q p.routes routes.lines;
        apart = each_two_filter routes_apart q p.routes routes.apart;
      });
      limits = within_limits kept (record {
        obstacles = limits.obstacles;
        screens = limits.screens;
        routes = omega (arith, limits.routes, fewer q p.routes);
        corners = limits.corners;
      });
    })

-- Whether a plan is sound doesn't depend on where among its like a part stands.
use Rattle.std.specs.Prelude.{◌≡◌, not, ◌&&◌, List, [], ◌∷◌, ◌++◌}
use Rattle.std.specs.List.{list_all, list_any}
use Rattle.std.proofs.Common.{refl, ap, ap₂}
use Rattle.plane_spec.specs.Lists.{pairs}
use Rattle.plan_spec.specs.declared.item.Screen.{Screen}
use Rattle.plan_spec.specs.declared.item.Route.{Route}
use Rattle.plan_spec.specs.Plan.{Obstacle, Plan, with_obstacles, with_screens, with_routes, corners_of_obstacle_count}
use Rattle.plan_spec.specs.Accepted.{is_polygon, is_proper_segment, lies_within, segment_lies_within, segment_meets_polygon, obstacles_apart, screens_apart, routes_apart, are_obstacles_sound, are_screens_sound, are_routes_sound, is_within_limits, is_sound}
use Rattle.list_laws.proofs.Tests.{list_all_agree}
use Rattle.plan_back.proofs.Places.{all_moved, any_moved, each_two_moved, length_moved, sum_moved}
use Rattle.plan_back.proofs.Turned.{obstacles_turned, screens_turned, routes_turned}

-- ---- an obstacle

module _ (p : Plan) (before : List Obstacle) (o : Obstacle) (after : List Obstacle) where
  abbrev middle : Plan
  middle = with_obstacles p (before ++ o ∷ after)

  abbrev last : Plan
  last = with_obstacles p ((before ++ after) ++ o ∷ [])

  obstacles_moved : are_obstacles_sound middle ≡ are_obstacles_sound last
  unfolding are_obstacles_sound
  obstacles_moved =
      ap₂ (λ t u. t && u)
      (all_moved before o after (λ x. is_polygon x.points && lies_within p.outer x.points))
      (each_two_moved before o after obstacles_apart obstacles_turned)

  screens_beside : are_screens_sound middle ≡ are_screens_sound last
  unfolding are_screens_sound
  screens_beside =
      ap (λ t. list_all (λ s. is_proper_segment s.from s.to && segment_lies_within p.outer s.from s.to) p.screens && t)
      (ap (λ t. t && list_all (λ e. screens_apart e.0 e.1) (pairs p.screens))
      (list_all_agree (λ s. not (list_any (λ x. segment_meets_polygon s.from s.to x.points) (before ++ o ∷ after)))
      (λ s. not (list_any (λ x. segment_meets_polygon s.from s.to x.points) ((before ++ after) ++ o ∷ [])))
      (λ s. ap not (any_moved before o after (λ x. segment_meets_polygon s.from s.to x.points)))
      p.screens))

  routes_beside : are_routes_sound middle ≡ are_routes_sound last
  unfolding are_routes_sound
  routes_beside = refl

  limits_moved : is_within_limits middle ≡ is_within_limits last
  unfolding is_within_limits
  limits_moved = rw (length_moved before o after, sum_moved before o after corners_of_obstacle_count) refl

  pub sound_obstacle_moved : is_sound middle ≡ is_sound last
  unfolding is_sound
  sound_obstacle_moved = rw (obstacles_moved, screens_beside, routes_beside, limits_moved) refl

-- ---- a screen

module _ (p : Plan) (before : List Screen) (s : Screen) (after : List Screen) where
  abbrev screen_middle : Plan
  screen_middle = with_screens p (before ++ s ∷ after)

  abbrev screen_last : Plan
  screen_last = with_screens p ((before ++ after) ++ s ∷ [])

  obstacles_same : are_obstacles_sound screen_middle ≡ are_obstacles_sound screen_last
  unfolding are_obstacles_sound
  obstacles_same = refl

  screens_moved : are_screens_sound screen_middle ≡ are_screens_sound screen_last
  unfolding are_screens_sound
  screens_moved =
      ap₂ (λ t u. t && u)
      (all_moved before s after (λ x. is_proper_segment x.from x.to && segment_lies_within p.outer x.from x.to))
      (ap₂ (λ t u. t && u)
      (all_moved before s after (λ x. not (list_any (λ o. segment_meets_polygon x.from x.to o.points) p.obstacles)))
      (each_two_moved before s after screens_apart screens_turned))

  routes_same : are_routes_sound screen_middle ≡ are_routes_sound screen_last
  unfolding are_routes_sound
  routes_same = refl

  screen_limits : is_within_limits screen_middle ≡ is_within_limits screen_last
  unfolding is_within_limits
  screen_limits = rw (length_moved before s after) refl

  pub sound_screen_moved : is_sound screen_middle ≡ is_sound screen_last
  unfolding is_sound
  sound_screen_moved = rw (obstacles_same, screens_moved, routes_same, screen_limits) refl

-- ---- a route

module _ (p : Plan) (before : List Route) (r : Route) (after : List Route) where
  abbrev route_middle : Plan
  route_middle = with_routes p (before ++ r ∷ after)

  abbrev route_last : Plan
  route_last = with_routes p ((before ++ after) ++ r ∷ [])

  obstacles_kept : are_obstacles_sound route_middle ≡ are_obstacles_sound route_last
  unfolding are_obstacles_sound
  obstacles_kept = refl

  screens_kept : are_screens_sound route_middle ≡ are_screens_sound route_last
  unfolding are_screens_sound
  screens_kept = refl

  routes_moved : are_routes_sound route_middle ≡ are_routes_sound route_last
  unfolding are_routes_sound
  routes_moved =
      ap₂ (λ t u. t && u)
      (all_moved before r after (λ x. is_proper_segment x.from x.to))
      (each_two_moved before r after routes_apart routes_turned)

  route_limits : is_within_limits route_middle ≡ is_within_limits route_last
  unfolding is_within_limits
  route_limits = rw (length_moved before r after) refl

  pub sound_route_moved : is_sound route_middle ≡ is_sound route_last
  unfolding is_sound
  sound_route_moved = rw (obstacles_kept, screens_kept, routes_moved, route_limits) refl

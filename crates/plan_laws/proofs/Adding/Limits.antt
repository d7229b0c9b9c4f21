-- The limits with one more obstacle, screen or route.
use Rattle.std.specs.Prelude.{◌≡◌, ℕ, ◌+◌, nat_le, nat_lt, Bool, not, ◌&&◌, List, [], ◌∷◌, ◌++◌, length}
use Rattle.std.proofs.Common.{arith}
use Rattle.std.proofs.lemmas.Bool.Decides.{nat_tests}
use Rattle.std.proofs.lemmas.List.{length_push}
use Rattle.std.proofs.lemmas.List.Sums.{sum_by_push}
use Rattle.std.proofs.Math.Bool.{and_assoc, and_comm}
use Rattle.list_laws.proofs.Conditions.{and_left_comm}
use Rattle.plane_spec.specs.declared.Point.{Point}
use Rattle.plan_spec.specs.declared.limits.TheConstants.{MAX_OBSTACLES, MAX_SCREENS, MAX_ROUTES, MAX_CORNERS}
use Rattle.plan_spec.specs.Plan.{Plan, obstacle, screen, route, with_obstacles, with_screens, with_routes, corner_count, corners_of_obstacle_count}
use Rattle.plan_spec.specs.Accepted.{is_within_limits}

-- one more of what there may be so many of
one_more : (most n m : ℕ) → m ≡ n + 1 → nat_le m most ≡ (nat_le n most && not (nat_le most n))
one_more most n m e = grind (arith, nat_tests)

-- so many more corners
more_corners : (most n k m : ℕ) → m ≡ n + k → nat_le m most ≡ (nat_le n most && not (nat_lt most (n + k)))
more_corners most n k m e = grind (arith, nat_tests)

pub corners_with_obstacle : (p : Plan) (name : List ℕ) (points : List Point)
    → corner_count (with_obstacles p (p.obstacles ++ obstacle name points ∷ [])) ≡ corner_count p + length points
corners_with_obstacle p name points = omega (arith, sum_by_push corners_of_obstacle_count p.obstacles (obstacle name points))

pub corners_with_screen : (p : Plan) (name : List ℕ) (from to : Point)
    → corner_count (with_screens p (p.screens ++ screen name from to ∷ [])) ≡ corner_count p + 2
corners_with_screen p name from to = omega (arith, length_push p.screens (screen name from to))

-- ---- the new tests, brought behind the old ones

obstacle_tests_last : (o o' s r c c' : Bool) → (((o && o') && s) && (r && (c && c'))) ≡ (((o && s) && (r && c)) && (o' && c'))
obstacle_tests_last o o' s r c c' = simp (and_assoc, and_left_comm)

screen_tests_last : (o s s' r c c' : Bool) → ((o && (s && s')) && (r && (c && c'))) ≡ (((o && s) && (r && c)) && (s' && c'))
screen_tests_last o s s' r c c' = simp (and_assoc, and_left_comm)

route_test_last : (o s r r' c : Bool) → ((o && s) && ((r && r') && c)) ≡ (((o && s) && (r && c)) && r')
route_test_last o s r r' c = simp (and_assoc, and_comm)

-- ---- the limits

pub limits_with_obstacle : (p : Plan) (name : List ℕ) (points : List Point)
    → is_within_limits (with_obstacles p (p.obstacles ++ obstacle name points ∷ []))
    ≡ (is_within_limits p
    && (not (nat_le MAX_OBSTACLES (length p.obstacles)) && not (nat_lt MAX_CORNERS (corner_count p + length points))))
unfolding is_within_limits
limits_with_obstacle p name points =
    rw (
      one_more MAX_OBSTACLES (length p.obstacles) _ (length_push p.obstacles (obstacle name points)),
      more_corners MAX_CORNERS (corner_count p) (length points) _ (corners_with_obstacle p name points),
      obstacle_tests_last,
    )

pub limits_with_screen : (p : Plan) (name : List ℕ) (from to : Point)
    → is_within_limits (with_screens p (p.screens ++ screen name from to ∷ []))
    ≡ (is_within_limits p
    && (not (nat_le MAX_SCREENS (length p.screens)) && not (nat_lt MAX_CORNERS (corner_count p + 2))))
unfolding is_within_limits
limits_with_screen p name from to =
    rw (
      one_more MAX_SCREENS (length p.screens) _ (length_push p.screens (screen name from to)),
      more_corners MAX_CORNERS (corner_count p) 2 _ (corners_with_screen p name from to),
      screen_tests_last,
    )

pub limits_with_route : (p : Plan) (name : List ℕ) (from to : Point)
    → is_within_limits (with_routes p (p.routes ++ route name from to ∷ []))
    ≡ (is_within_limits p && not (nat_le MAX_ROUTES (length p.routes)))
unfolding is_within_limits
limits_with_route p name from to =
    rw (one_more MAX_ROUTES (length p.routes) _ (length_push p.routes (route name from to)), route_test_last)

-- What the numbers of a sound plan are within.
use Rattle.std.specs.Prelude.{◌≡◌, ◌≤◌, nat_le, ℤ, pos, Bool, true, not, ◌&&◌, List, [], ◌∷◌, length, get_or}
use Rattle.std.specs.List.{list_all, All}
use Rattle.std.proofs.Common.{refl, arith}
use Rattle.std.proofs.lemmas.Bool.{leb-true, not-true}
use Rattle.std.proofs.lemmas.Int.{ints}
use Rattle.std.proofs.lemmas.List.Elements.{All-nil, All-cons}
use Rattle.std.proofs.lemmas.List.Sums.{get_or-le-sum_by}
use Rattle.plane_spec.specs.declared.Point.{Point}
use Rattle.plane_spec.specs.Vectors.{IsWithin, InRange, is_coordinate, is_in_range, same_point}
use Rattle.plane_spec.specs.Polygons.{has_repeat, crosses_nowhere, is_simple}
use Rattle.plan_spec.specs.declared.limits.TheConstants.{MAX_OBSTACLES, MAX_SCREENS, MAX_ROUTES, MAX_CORNERS}
use Rattle.plan_spec.specs.Plan.{Plan, has_outer, corner_count, corners_of_obstacle_count}
use Rattle.plan_spec.specs.Accepted.{is_polygon, is_proper_segment, lies_within, segment_lies_within, is_within_limits, is_sound}
use Rattle.plan_spec.specs.Ranges.{IsPolygonInRange, IsProperSegmentInRange, IsWithinLimits}
use Rattle.plan_laws.proofs.Parts.{first_of_both, second_of_both, parts_of_sound, parts_of_obstacles, parts_of_screens, parts_of_routes}

-- ---- points

pub coordinate_within : (z : ℤ) → is_coordinate z ≡ true → IsWithin (pos 100000) z
coordinate_within z h = record { low = grind (arith, ints); high = grind (arith, ints) }

pub point_in_range : (p : Point) → is_in_range p ≡ true → InRange p
point_in_range p h = record {
  x = coordinate_within p.x (first_of_both (is_coordinate p.x) (is_coordinate p.y) h);
  y = coordinate_within p.y (second_of_both (is_coordinate p.x) (is_coordinate p.y) h);
}

-- ---- lists

-- what each element that passes the test is, all elements are
pub each_is : {X : Type 0} (p : X → Bool) (P : X → Type 0) → ((x : X) → p x ≡ true → P x) → (xs : List X) → list_all p xs ≡ true → All P xs
each_is p P h [] e = All-nil P
each_is p P h (x ∷ xs) e = All-cons P x xs (h x (first_of_both (p x) (list_all p xs) e)) (each_is p P h xs (second_of_both (p x) (list_all p xs) e))

pub points_in_range : (points : List Point) → list_all is_in_range points ≡ true → All InRange points
points_in_range points h = each_is is_in_range InRange point_in_range points h

-- ---- limits

pub limits_are : (p : Plan) → is_within_limits p ≡ true → IsWithinLimits p
unfolding is_within_limits
limits_are p h =
    let obstacles = nat_le (length p.obstacles) MAX_OBSTACLES in
    let screens = nat_le (length p.screens) MAX_SCREENS in
    let routes = nat_le (length p.routes) MAX_ROUTES in
    let corners = nat_le (corner_count p) MAX_CORNERS in
    let counts = first_of_both (obstacles && screens) (routes && corners) h in
    let rest = second_of_both (obstacles && screens) (routes && corners) h in
    record {
      obstacles = leb-true _ _ (first_of_both obstacles screens counts);
      screens = leb-true _ _ (second_of_both obstacles screens counts);
      routes = leb-true _ _ (first_of_both routes corners rest);
      corners = leb-true _ _ (second_of_both routes corners rest);
    }

pub sound_limits : (p : Plan) → is_sound p ≡ true → IsWithinLimits p
sound_limits p h = limits_are p (parts_of_sound p h).limits

-- ---- polygons

polygon_in_range : (points : List Point)
    → is_polygon points ≡ true → length points ≤ MAX_CORNERS → IsPolygonInRange points
polygon_in_range points h few =
    let simple = second_of_both (list_all is_in_range points) (is_simple points) h in
    record {
      in_range = points_in_range points (first_of_both (list_all is_in_range points) (is_simple points) h);
      at_least =
          leb-true _ _
          (first_of_both (nat_le 3 (length points)) (not (has_repeat points) && crosses_nowhere points) simple);
      at_most = few;
    }

pub sound_outer : (p : Plan) → is_sound p ≡ true → IsPolygonInRange p.outer
sound_outer p h =
    let limits = sound_limits p h in
    polygon_in_range p.outer (parts_of_sound p h).outer (omega (arith, limits.corners))

pub sound_obstacles : (p : Plan) → is_sound p ≡ true → All (λ o. IsPolygonInRange o.points) p.obstacles
sound_obstacles p h =
    let limits = sound_limits p h in
    let polygons : All (λ o. is_polygon o.points ≡ true) p.obstacles =
    each_is (λ o. is_polygon o.points && lies_within p.outer o.points) (λ o. is_polygon o.points ≡ true)
    (λ o. first_of_both (is_polygon o.points) (lies_within p.outer o.points))
    p.obstacles (parts_of_obstacles p (parts_of_sound p h).obstacles).polygons in
    λ k d in_list. polygon_in_range (get_or p.obstacles k d).points (polygons k d in_list)
    (omega (arith, limits.corners, get_or-le-sum_by corners_of_obstacle_count p.obstacles k d in_list))

pub sound_has_outer : (p : Plan) → is_sound p ≡ true → has_outer p ≡ true
sound_has_outer p h = some_points p (sound_outer p h).at_least
  where
    some_points : (p : Plan) → 3 ≤ length p.outer → has_outer p ≡ true
    some_points p h = by_points p.outer h
      where
        by_points : (points : List Point) → 3 ≤ length points → has_outer (record p { outer = points }) ≡ true
        by_points [] h = absurd (omega arith)
        by_points (x ∷ points) h = refl

-- ---- lines

line_in_range : (from to : Point) → is_proper_segment from to ≡ true → IsProperSegmentInRange from to
line_in_range from to h =
    let ends = first_of_both (is_in_range from && is_in_range to) (not (same_point from to)) h in
    record {
      from_in = point_in_range from (first_of_both (is_in_range from) (is_in_range to) ends);
      to_in = point_in_range to (second_of_both (is_in_range from) (is_in_range to) ends);
      apart = not-true _ (second_of_both (is_in_range from && is_in_range to) (not (same_point from to)) h);
    }

pub sound_screens : (p : Plan) → is_sound p ≡ true → All (λ s. IsProperSegmentInRange s.from s.to) p.screens
sound_screens p h =
    each_is (λ s. is_proper_segment s.from s.to && segment_lies_within p.outer s.from s.to) (λ s. IsProperSegmentInRange s.from s.to)
    (λ s e. line_in_range s.from s.to (first_of_both (is_proper_segment s.from s.to) (segment_lies_within p.outer s.from s.to) e))
    p.screens (parts_of_screens p (parts_of_sound p h).screens).lines

pub sound_routes : (p : Plan) → is_sound p ≡ true → All (λ r. IsProperSegmentInRange r.from r.to) p.routes
sound_routes p h =
    each_is (λ r. is_proper_segment r.from r.to) (λ r. IsProperSegmentInRange r.from r.to) (λ r. line_in_range r.from r.to)
    p.routes (parts_of_routes p (parts_of_sound p h).routes).lines

-- ---- the points of each, alone

pub outer_in_range : (p : Plan) → is_sound p ≡ true → All InRange p.outer
outer_in_range p h = (sound_outer p h).in_range

pub obstacles_in_range : (p : Plan) → is_sound p ≡ true → All (λ o. All InRange o.points) p.obstacles
obstacles_in_range p h = λ k d in_list. (sound_obstacles p h k d in_list).in_range

-- What a sound plan's parts are, one by one, and back.
use Rattle.std.specs.Prelude.{◌≡◌, Bool, true, not, ◌&&◌}
use Rattle.std.specs.List.{list_all, list_any}
use Rattle.std.proofs.lemmas.Bool.{and_from, and_parts}
use Rattle.plan_spec.specs.Plan.{Plan}
use Rattle.plan_spec.specs.Accepted.{each_two, is_polygon, is_proper_segment, lies_within, segment_lies_within, segment_meets_polygon, obstacles_apart, screens_apart, routes_apart, is_grid_sound, are_obstacles_sound, are_screens_sound, are_routes_sound, is_within_limits, is_sound}

-- ---- the tests of a conjunction

pub first_of_both : (a b : Bool) → (a && b) ≡ true → a ≡ true
first_of_both a b h = (and_parts a b h).0

pub second_of_both : (a b : Bool) → (a && b) ≡ true → b ≡ true
second_of_both a b h = (and_parts a b h).1

-- ---- the plan

pub record SoundParts (p : Plan) : Type 0 where
  pub outer : is_polygon p.outer ≡ true
  pub grid : is_grid_sound p.grid ≡ true
  pub obstacles : are_obstacles_sound p ≡ true
  pub screens : are_screens_sound p ≡ true
  pub routes : are_routes_sound p ≡ true
  pub limits : is_within_limits p ≡ true

pub parts_of_sound : (p : Plan) → is_sound p ≡ true → SoundParts p
unfolding is_sound
parts_of_sound p h =
    let outer_grid = first_of_both (is_polygon p.outer && is_grid_sound p.grid) _ h in
    let rest = second_of_both (is_polygon p.outer && is_grid_sound p.grid) ((are_obstacles_sound p && are_screens_sound p) && (are_routes_sound p && is_within_limits p)) h in
    let standing = first_of_both (are_obstacles_sound p && are_screens_sound p) (are_routes_sound p && is_within_limits p) rest in
    let last = second_of_both (are_obstacles_sound p && are_screens_sound p) (are_routes_sound p && is_within_limits p) rest in
    record {
      outer = first_of_both (is_polygon p.outer) (is_grid_sound p.grid) outer_grid;
      grid = second_of_both (is_polygon p.outer) (is_grid_sound p.grid) outer_grid;
      obstacles = first_of_both (are_obstacles_sound p) (are_screens_sound p) standing;
      screens = second_of_both (are_obstacles_sound p) (are_screens_sound p) standing;
      routes = first_of_both (are_routes_sound p) (is_within_limits p) last;
      limits = second_of_both (are_routes_sound p) (is_within_limits p) last;
    }

pub sound_from_parts : (p : Plan) → SoundParts p → is_sound p ≡ true
unfolding is_sound
sound_from_parts p s =
    and_from (is_polygon p.outer && is_grid_sound p.grid) ((are_obstacles_sound p && are_screens_sound p) && (are_routes_sound p && is_within_limits p))
    (and_from (is_polygon p.outer) (is_grid_sound p.grid) s.outer s.grid)
    (and_from (are_obstacles_sound p && are_screens_sound p) (are_routes_sound p && is_within_limits p)
    (and_from (are_obstacles_sound p) (are_screens_sound p) s.obstacles s.screens)
    (and_from (are_routes_sound p) (is_within_limits p) s.routes s.limits))

-- ---- the obstacles, the screens, the routes

pub record ObstacleParts (p : Plan) : Type 0 where
  pub polygons : list_all (λ o. is_polygon o.points && lies_within p.outer o.points) p.obstacles ≡ true
  pub apart : each_two obstacles_apart p.obstacles ≡ true

pub parts_of_obstacles : (p : Plan) → are_obstacles_sound p ≡ true → ObstacleParts p
unfolding are_obstacles_sound
parts_of_obstacles p h = record {
  polygons = first_of_both (list_all (λ o. is_polygon o.points && lies_within p.outer o.points) p.obstacles) (each_two obstacles_apart p.obstacles) h;
  apart = second_of_both (list_all (λ o. is_polygon o.points && lies_within p.outer o.points) p.obstacles) (each_two obstacles_apart p.obstacles) h;
}

pub obstacles_from_parts : (p : Plan) → ObstacleParts p → are_obstacles_sound p ≡ true
unfolding are_obstacles_sound
obstacles_from_parts p o = and_from (list_all (λ o. is_polygon o.points && lies_within p.outer o.points) p.obstacles) (each_two obstacles_apart p.obstacles) o.polygons o.apart

pub record ScreenParts (p : Plan) : Type 0 where
  pub lines : list_all (λ s. is_proper_segment s.from s.to && segment_lies_within p.outer s.from s.to) p.screens ≡ true
  pub clear : list_all (λ s. not (list_any (λ o. segment_meets_polygon s.from s.to o.points) p.obstacles)) p.screens ≡ true
  pub apart : each_two screens_apart p.screens ≡ true

pub parts_of_screens : (p : Plan) → are_screens_sound p ≡ true → ScreenParts p
unfolding are_screens_sound
parts_of_screens p h =
    let lines : Bool = list_all (λ s. is_proper_segment s.from s.to && segment_lies_within p.outer s.from s.to) p.screens in
    let clear : Bool = list_all (λ s. not (list_any (λ o. segment_meets_polygon s.from s.to o.points) p.obstacles)) p.screens in
    let rest = second_of_both lines (clear && each_two screens_apart p.screens) h in
    record {
      lines = first_of_both lines (clear && each_two screens_apart p.screens) h;
      clear = first_of_both clear (each_two screens_apart p.screens) rest;
      apart = second_of_both clear (each_two screens_apart p.screens) rest;
    }

pub screens_from_parts : (p : Plan) → ScreenParts p → are_screens_sound p ≡ true
unfolding are_screens_sound
screens_from_parts p s =
    let lines : Bool = list_all (λ s. is_proper_segment s.from s.to && segment_lies_within p.outer s.from s.to) p.screens in
    let clear : Bool = list_all (λ s. not (list_any (λ o. segment_meets_polygon s.from s.to o.points) p.obstacles)) p.screens in
    and_from lines (clear && each_two screens_apart p.screens) s.lines (and_from clear (each_two screens_apart p.screens) s.clear s.apart)

pub record RouteParts (p : Plan) : Type 0 where
  pub lines : list_all (λ r. is_proper_segment r.from r.to) p.routes ≡ true
  pub apart : each_two routes_apart p.routes ≡ true

pub parts_of_routes : (p : Plan) → are_routes_sound p ≡ true → RouteParts p
unfolding are_routes_sound
parts_of_routes p h = record {
  lines = first_of_both (list_all (λ r. is_proper_segment r.from r.to) p.routes) (each_two routes_apart p.routes) h;
  apart = second_of_both (list_all (λ r. is_proper_segment r.from r.to) p.routes) (each_two routes_apart p.routes) h;
}

pub routes_from_parts : (p : Plan) → RouteParts p → are_routes_sound p ≡ true
unfolding are_routes_sound
routes_from_parts p r = and_from (list_all (λ r. is_proper_segment r.from r.to) p.routes) (each_two routes_apart p.routes) r.lines r.apart

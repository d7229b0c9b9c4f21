-- Which plans are accepted.
use Rattle.std.specs.Prelude.{nat_le, ℤ, pos, ◌+ℤ◌, ◌-ℤ◌, ◌*ℤ◌, int_le, Bool, true, false, ◌&&◌, ◌||◌, not, List, [], ◌∷◌, length, count_by, filter, Option, Some, None, is_none}
use Rattle.std.specs.List.{list_any, list_all}
use Rattle.std.specs.Str.{bytes_eq}
use Rattle.plane_spec.specs.declared.Point.{Point}
use Rattle.plane_spec.specs.Lists.{pairs}
use Rattle.plane_spec.specs.Vectors.{is_coordinate, is_in_range, same_point}
use Rattle.plane_spec.specs.Segments.{do_touch, is_on_segment}
use Rattle.plane_spec.specs.Polygons.{edges_of, is_inside, borders_touch, is_simple}
use Rattle.plan_spec.specs.declared.item.GridSpec.{GridSpec}
use Rattle.plan_spec.specs.declared.item.Screen.{Screen}
use Rattle.plan_spec.specs.declared.item.Route.{Route}
use Rattle.plan_spec.specs.declared.item.Item.{Item}
use Rattle.plan_spec.specs.declared.item.Item.TheVariants.{Grid, Outer}
use Rattle.plan_spec.specs.declared.limits.TheConstants.{MAX_OBSTACLES, MAX_SCREENS, MAX_ROUTES, MAX_CORNERS, MAX_GRID_POINTS, MAX_STEP}
use Rattle.plan_spec.specs.Plan.{Obstacle, Plan, empty_plan, with_items, corner_count}

-- each two elements of the list, the earlier one first, pass the test
abbrev pub each_two : {X : Type 0} → (X → X → Bool) → List X → Bool
each_two test xs = list_all (λ e. test e.0 e.1) (pairs xs)

-- ---- one part by itself

-- a simple polygon whose coordinates are in range
abbrev pub is_polygon : List Point → Bool
is_polygon points = list_all is_in_range points && is_simple points

-- two different ends in range
abbrev pub is_proper_segment : Point → Point → Bool
is_proper_segment from to = (is_in_range from && is_in_range to) && not (same_point from to)

-- z is from 1 to most
abbrev pub is_from_one : ℤ → ℤ → Bool
is_from_one most z = int_le (pos 1) z && int_le z most

-- the first and the last of `count` coordinates that are `step` apart are in range
abbrev pub is_row_in_range : ℤ → ℤ → ℤ → Bool
is_row_in_range first step count = is_coordinate first && is_coordinate (first +ℤ step *ℤ (count -ℤ pos 1))

-- a step of 1 to `MAX_STEP`, at least one column and one row, and all points in range
unfoldable pub is_grid_in_range : GridSpec → Bool
is_grid_in_range g =
    (is_from_one MAX_STEP g.step && (int_le (pos 1) g.cols && int_le (pos 1) g.rows))
    && (is_row_in_range g.x0 g.step g.cols && is_row_in_range g.y0 g.step g.rows)

-- at most `MAX_GRID_POINTS` points
abbrev pub is_grid_small : GridSpec → Bool
is_grid_small g = int_le (g.cols *ℤ g.rows) (pos MAX_GRID_POINTS)

-- there is no grid, or its points are in range and at most `MAX_GRID_POINTS`
abbrev pub is_grid_sound : Option GridSpec → Bool
is_grid_sound None = true
is_grid_sound (Some g) = is_grid_in_range g && is_grid_small g

-- ---- two parts beside each other

-- each corner is inside the outer polygon, and no edge touches one of its edges
unfoldable pub lies_within : List Point → List Point → Bool
lies_within outer points = list_all (λ p. is_inside p outer) points && not (borders_touch outer points)

-- edges of the two polygons touch, or a corner of one is inside the other
unfoldable pub polygons_meet : List Point → List Point → Bool
polygons_meet points others = borders_touch points others || (list_any (λ p. is_inside p others) points || list_any (λ p. is_inside p points) others)

-- the segment touches an edge of the polygon
abbrev pub touches_border : Point → Point → List Point → Bool
touches_border from to points = list_any (λ e. do_touch from to e.a e.b) (edges_of points)

-- both ends are inside the outer polygon, and the segment touches none of its edges
unfoldable pub segment_lies_within : List Point → Point → Point → Bool
segment_lies_within outer from to = (is_inside from outer && is_inside to outer) && not (touches_border from to outer)

-- the segment touches an edge of the polygon, or has an end inside it
unfoldable pub segment_meets_polygon : Point → Point → List Point → Bool
segment_meets_polygon from to points = touches_border from to points || (is_inside from points || is_inside to points)

-- the ends of two segments that lie on both
abbrev pub shared_ends : Point → Point → Point → Point → List Point
shared_ends a b c d = filter (λ x. is_on_segment x a b && is_on_segment x c d) (a ∷ b ∷ c ∷ d ∷ [])

-- two segments share more than one point: then the ends of what they share are two different ends of theirs
unfoldable pub do_segments_overlap : Point → Point → Point → Point → Bool
do_segments_overlap a b c d = list_any (λ e. not (same_point e.0 e.1)) (pairs (shared_ends a b c d))

-- ---- the obstacles, the screens, the routes

-- two obstacles don't meet, and have different names
abbrev pub obstacles_apart : Obstacle → Obstacle → Bool
obstacles_apart o q = not (polygons_meet o.points q.points) && not (bytes_eq o.name q.name)

-- simple polygons within the outer polygon, apart from each other, with different names
unfoldable pub are_obstacles_sound : Plan → Bool
are_obstacles_sound plan =
    list_all (λ o. is_polygon o.points && lies_within plan.outer o.points) plan.obstacles && each_two obstacles_apart plan.obstacles

-- two screens don't touch, and have different names
abbrev pub screens_apart : Screen → Screen → Bool
screens_apart s t = not (do_touch s.from s.to t.from t.to) && not (bytes_eq s.name t.name)

-- segments within the outer polygon that meet no obstacle and no other screen, with different names
unfoldable pub are_screens_sound : Plan → Bool
are_screens_sound plan =
    list_all (λ s. is_proper_segment s.from s.to && segment_lies_within plan.outer s.from s.to) plan.screens
    && (list_all (λ s. not (list_any (λ o. segment_meets_polygon s.from s.to o.points) plan.obstacles)) plan.screens
    && each_two screens_apart plan.screens)

-- two routes share at most one point, and have different names
abbrev pub routes_apart : Route → Route → Bool
routes_apart r q = not (do_segments_overlap r.from r.to q.from q.to) && not (bytes_eq r.name q.name)

-- segments of which each two share at most one point, with different names
unfoldable pub are_routes_sound : Plan → Bool
are_routes_sound plan = list_all (λ r. is_proper_segment r.from r.to) plan.routes && each_two routes_apart plan.routes

-- ---- the plan

-- at most `MAX_OBSTACLES`, `MAX_SCREENS`, `MAX_ROUTES` and `MAX_CORNERS`
unfoldable pub is_within_limits : Plan → Bool
is_within_limits plan =
    (nat_le (length plan.obstacles) MAX_OBSTACLES && nat_le (length plan.screens) MAX_SCREENS)
    && (nat_le (length plan.routes) MAX_ROUTES && nat_le (corner_count plan) MAX_CORNERS)

-- the outer polygon is simple, the obstacles and the screens stand in it, apart from each other, the grid and the
-- routes are sound by themselves, wherever they lie, and no limit is passed
unfoldable pub is_sound : Plan → Bool
is_sound plan =
    (is_polygon plan.outer && is_grid_sound plan.grid)
    && ((are_obstacles_sound plan && are_screens_sound plan) && (are_routes_sound plan && is_within_limits plan))

-- ---- the items

-- the item is an outer polygon
abbrev pub is_outer : Item → Bool
is_outer (Outer points) = true
is_outer _ = false

-- the item is a grid
abbrev pub is_grid : Item → Bool
is_grid (Grid spec) = true
is_grid _ = false

-- the item may stand after the outer polygon: it is no outer polygon, and no second grid
abbrev pub may_follow : Plan → Item → Bool
may_follow plan (Grid spec) = is_none plan.grid
may_follow plan (Outer points) = false
may_follow plan _ = true

-- the first item is an outer polygon, no other item is one, and there is at most one grid
unfoldable pub are_in_order : List Item → Bool
are_in_order [] = false
are_in_order (item ∷ items) = is_outer item && (not (list_any is_outer items) && nat_le (count_by is_grid items) 1)

-- the items are in order, and the plan that they make is sound
unfoldable pub is_accepted : List Item → Bool
is_accepted items = are_in_order items && is_sound (with_items empty_plan items)

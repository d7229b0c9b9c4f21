-- Why an item is refused: the first cause that holds, in the order of the lists.
use Rattle.std.specs.Prelude.{ℕ, ◌+◌, nat_lt, nat_le, Bool, ◌&&◌, ◌||◌, not, List, [], ◌∷◌, length, filter, Option, Some, None, Result, Ok, Err, is_some, if◌then◌else◌}
use Rattle.std.specs.List.{list_any, list_all}
use Rattle.plane_spec.specs.declared.Point.{Point}
use Rattle.plane_spec.specs.Vectors.{is_in_range, same_point}
use Rattle.plane_spec.specs.Segments.{do_touch}
use Rattle.plane_spec.specs.Polygons.{has_repeat, crosses_nowhere}
use Rattle.plan_spec.specs.declared.item.GridSpec.{GridSpec}
use Rattle.plan_spec.specs.declared.item.Screen.{Screen}
use Rattle.plan_spec.specs.declared.item.Route.{Route}
use Rattle.plan_spec.specs.declared.item.Item.{Item}
use Rattle.plan_spec.specs.declared.item.Item.TheVariants.{Grid, Outer, Obstacle as ObstacleItem, Screen as ScreenItem, Route as RouteItem}
use Rattle.plan_spec.specs.declared.why.Why.{Why}
use Rattle.plan_spec.specs.declared.why.Why.TheVariants.{Order, Count, Range, Repeat, Cross, Outside, Touch, Screen as TouchesScreen, NameTaken, Full, Overlap}
use Rattle.plan_spec.specs.declared.why.Limit.TheVariants.{Obstacles, Corners, Screens, Routes, Points as GridPoints}
use Rattle.plan_spec.specs.declared.limits.TheConstants.{MAX_OBSTACLES, MAX_SCREENS, MAX_ROUTES, MAX_CORNERS}
use Rattle.plan_spec.specs.Plan.{Obstacle, Plan, empty_plan, has_outer, with_item, corner_count, is_obstacle_named, is_screen_named, is_route_named}
use Rattle.plan_spec.specs.Accepted.{is_grid_in_range, is_grid_small, lies_within, polygons_meet, segment_lies_within, segment_meets_polygon, do_segments_overlap}

-- ---- what the new part meets, in plan order

-- the obstacles that a polygon meets
abbrev pub obstacles_met : List Point → List Obstacle → List Obstacle
obstacles_met points obstacles = filter (λ o. polygons_meet o.points points) obstacles

-- the screens that meet a polygon
abbrev pub screens_met : List Point → List Screen → List Screen
screens_met points screens = filter (λ s. segment_meets_polygon s.from s.to points) screens

-- the obstacles that a segment meets
abbrev pub obstacles_met_by_segment : Point → Point → List Obstacle → List Obstacle
obstacles_met_by_segment from to obstacles = filter (λ o. segment_meets_polygon from to o.points) obstacles

-- the screens that a segment touches
abbrev pub screens_met_by_segment : Point → Point → List Screen → List Screen
screens_met_by_segment from to screens = filter (λ s. do_touch s.from s.to from to) screens

-- the routes that share more than one point with a segment
abbrev pub routes_overlapped : Point → Point → List Route → List Route
routes_overlapped from to routes = filter (λ r. do_segments_overlap r.from r.to from to) routes

-- ---- the first cause of several

-- the cause, where the test holds
abbrev pub when : Bool → Why → Option Why
when test why = if test then Some why else None

-- the first of the causes that hold
abbrev pub first_cause : List (Option Why) → Option Why
first_cause [] = None
first_cause (None ∷ causes) = first_cause causes
first_cause (Some why ∷ causes) = Some why

-- the first of the obstacles that are met
abbrev pub first_obstacle : List Obstacle → Option Why
first_obstacle [] = None
first_obstacle (o ∷ obstacles) = Some (Touch o.name)

-- the first of the screens that are met
abbrev pub first_screen : List Screen → Option Why
first_screen [] = None
first_screen (s ∷ screens) = Some (TouchesScreen s.name)

-- the first of the routes that are overlapped
abbrev pub first_route : List Route → Option Why
first_route [] = None
first_route (r ∷ routes) = Some (Overlap r.name)

-- ---- a part by itself

-- what the points of a polygon are refused for by themselves
unfoldable pub why_not_polygon : List Point → Option Why
why_not_polygon points = first_cause (
    when (nat_lt (length points) 3) Count
    ∷ when (not (list_all is_in_range points)) Range
    ∷ when (has_repeat points) Repeat
    ∷ when (not (crosses_nowhere points)) Cross
    ∷ [])

-- what the ends of a segment are refused for by themselves
unfoldable pub why_not_segment : Point → Point → Option Why
why_not_segment from to = first_cause (
    when (not (is_in_range from && is_in_range to)) Range
    ∷ when (same_point from to) Repeat
    ∷ [])

-- ---- a part beside those of the plan

-- what a polygon is refused for where it stands: it isn't within the outer polygon, or meets an obstacle or a screen
unfoldable pub why_not_polygon_in : Plan → List Point → Option Why
why_not_polygon_in plan points = first_cause (
    when (not (lies_within plan.outer points)) Outside
    ∷ first_obstacle (obstacles_met points plan.obstacles)
    ∷ first_screen (screens_met points plan.screens)
    ∷ [])

-- what a screen is refused for where it stands: it isn't within the outer polygon, or meets an obstacle or a screen
unfoldable pub why_not_segment_in : Plan → Point → Point → Option Why
why_not_segment_in plan from to = first_cause (
    when (not (segment_lies_within plan.outer from to)) Outside
    ∷ first_obstacle (obstacles_met_by_segment from to plan.obstacles)
    ∷ first_screen (screens_met_by_segment from to plan.screens)
    ∷ [])

-- ---- each kind of item

-- an outer polygon is refused where there is one already, for its points, and for too many corners
unfoldable pub why_not_outer : Plan → List Point → Option Why
why_not_outer plan points = first_cause (
    when (has_outer plan) Order
    ∷ why_not_polygon points
    ∷ when (nat_lt MAX_CORNERS (corner_count plan + length points)) (Full Corners)
    ∷ [])

-- a grid is refused where there is one already or no outer polygon yet, for its numbers, and for too many points
unfoldable pub why_not_grid : Plan → GridSpec → Option Why
why_not_grid plan g = first_cause (
    when (is_some plan.grid || not (has_outer plan)) Order
    ∷ when (not (is_grid_in_range g)) Range
    ∷ when (not (is_grid_small g)) (Full GridPoints)
    ∷ [])

-- an obstacle is refused before the outer polygon, for its points, for where it stands, for its name, and for limits
unfoldable pub why_not_obstacle : Plan → List ℕ → List Point → Option Why
why_not_obstacle plan name points = first_cause (
    when (not (has_outer plan)) Order
    ∷ why_not_polygon points
    ∷ why_not_polygon_in plan points
    ∷ when (list_any (is_obstacle_named name) plan.obstacles) NameTaken
    ∷ when (nat_le MAX_OBSTACLES (length plan.obstacles)) (Full Obstacles)
    ∷ when (nat_lt MAX_CORNERS (corner_count plan + length points)) (Full Corners)
    ∷ [])

-- a screen is refused before the outer polygon, for its ends, for where it stands, for its name, and for limits
unfoldable pub why_not_screen : Plan → List ℕ → Point → Point → Option Why
why_not_screen plan name from to = first_cause (
    when (not (has_outer plan)) Order
    ∷ why_not_segment from to
    ∷ why_not_segment_in plan from to
    ∷ when (list_any (is_screen_named name) plan.screens) NameTaken
    ∷ when (nat_le MAX_SCREENS (length plan.screens)) (Full Screens)
    ∷ when (nat_lt MAX_CORNERS (corner_count plan + 2)) (Full Corners)
    ∷ [])

-- a route is refused before the outer polygon, for its ends, for its name, for the limit, and for what it overlaps
unfoldable pub why_not_route : Plan → List ℕ → Point → Point → Option Why
why_not_route plan name from to = first_cause (
    when (not (has_outer plan)) Order
    ∷ why_not_segment from to
    ∷ when (list_any (is_route_named name) plan.routes) NameTaken
    ∷ when (nat_le MAX_ROUTES (length plan.routes)) (Full Routes)
    ∷ first_route (routes_overlapped from to plan.routes)
    ∷ [])

-- the first cause for which the item is refused on the plan, or none
abbrev pub why_not_item : Plan → Item → Option Why
why_not_item plan (Grid spec) = why_not_grid plan spec
why_not_item plan (Outer points) = why_not_outer plan points
why_not_item plan (ObstacleItem name points) = why_not_obstacle plan name points
why_not_item plan (ScreenItem name from to) = why_not_screen plan name from to
why_not_item plan (RouteItem name from to) = why_not_route plan name from to

-- ---- a list of items

-- the number and the cause where the item of this number is refused, and otherwise what comes of those after it
abbrev pub refused_at : ℕ → Option Why → Result Plan (ℕ × Why) → Result Plan (ℕ × Why)
refused_at number None next = next
refused_at number (Some why) next = Err (number, why)

-- the items from `number` on, each added to the plan of the items before it; where no outer polygon has come by the
-- end, the number after the last item, and Order
unfoldable pub check_from : ℕ → Plan → List Item → Result Plan (ℕ × Why)
check_from number plan [] = if has_outer plan then Ok plan else Err (number, Order)
check_from number plan (item ∷ items) = refused_at number (why_not_item plan item) (check_from (number + 1) (with_item plan item) items)

-- the plan of the items, or the number of the first item that is refused, counted from 0, and its first cause: without
-- items 0 and Order. Where the first item isn't an outer polygon, it is refused itself, with Order
abbrev pub check_of : List Item → Result Plan (ℕ × Why)
check_of items = check_from 0 empty_plan items

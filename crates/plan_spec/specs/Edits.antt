-- Edits: why one is refused, the plan after it, and the boxes in which something changes.
use Rattle.std.specs.Prelude.{◌≡◌, ℕ, ℤ, ⊤, ◌+ℤ◌, Bool, true, not, List, [], ◌∷◌, map, filter, Option, None, if◌then◌else◌}
use Rattle.std.specs.List.{list_any, list_all, flat_map}
use Rattle.plane_spec.specs.declared.Point.{Point}
use Rattle.plane_spec.specs.declared.PlanBox.{PlanBox}
use Rattle.plane_spec.specs.Vectors.{IsWithin, point, is_in_range}
use Rattle.plane_spec.specs.Boxes.{box_of_points}
use Rattle.plan_spec.specs.declared.item.Screen.{Screen}
use Rattle.plan_spec.specs.declared.item.Item.TheVariants.{Obstacle as ObstacleItem, Screen as ScreenItem, Route as RouteItem}
use Rattle.plan_spec.specs.declared.edit.Edit.{Edit}
use Rattle.plan_spec.specs.declared.edit.Edit.TheVariants.{Add, Remove, Move, AddScreen, RemoveScreen, AddRoute, RemoveRoute}
use Rattle.plan_spec.specs.declared.edit.Changed.{Changed}
use Rattle.plan_spec.specs.declared.why.Why.{Why}
use Rattle.plan_spec.specs.declared.why.Why.TheVariants.{Range, Missing}
use Rattle.plan_spec.specs.declared.limits.TheConstants.{MAX_SHIFT}
use Rattle.plan_spec.specs.Plan.{Obstacle, Plan, obstacle, with_item, with_obstacles, with_screens, with_routes, is_obstacle_named, is_screen_named, is_route_named}
use Rattle.plan_spec.specs.Accepted.{is_sound}
use Rattle.plan_spec.specs.Refusals.{when, first_cause, why_not_polygon_in, why_not_obstacle, why_not_screen, why_not_route}

-- ---- shifts

-- a point moved by dx and dy
abbrev pub shifted_point : ℤ → ℤ → Point → Point
shifted_point dx dy p = point (p.x +ℤ dx) (p.y +ℤ dy)

-- a box moved by dx and dy
abbrev pub shifted_box : ℤ → ℤ → PlanBox → PlanBox
shifted_box dx dy area = record { low = shifted_point dx dy area.low; high = shifted_point dx dy area.high }

-- an obstacle moved by dx and dy, which keeps its name
abbrev pub shifted_obstacle : ℤ → ℤ → Obstacle → Obstacle
shifted_obstacle dx dy o = obstacle o.name (map (shifted_point dx dy) o.points)

-- a shift of at most `MAX_SHIFT` in each coordinate
pub record IsShift (dx dy : ℤ) : Type 0 where
  pub x : IsWithin MAX_SHIFT dx
  pub y : IsWithin MAX_SHIFT dy

-- where the edit is a move, its shift is at most `MAX_SHIFT` in each coordinate
abbrev pub HasShift : Edit → Type 0
HasShift (Move name dx dy) = IsShift dx dy
HasShift _ = ⊤

-- the points of the obstacle of this name, or none
abbrev pub points_named : List ℕ → List Obstacle → List Point
points_named name obstacles = flat_map (λ o. o.points) (filter (is_obstacle_named name) obstacles)

-- the obstacles of other names
abbrev pub without_obstacle : List ℕ → List Obstacle → List Obstacle
without_obstacle name obstacles = filter (λ o. not (is_obstacle_named name o)) obstacles

-- the plan without the obstacle of this name
abbrev pub others_of : Plan → List ℕ → Plan
others_of plan name = with_obstacles plan (without_obstacle name plan.obstacles)

-- the points of the obstacle of this name, moved by dx and dy
abbrev pub moved_points : Plan → List ℕ → ℤ → ℤ → List Point
moved_points plan name dx dy = map (shifted_point dx dy) (points_named name plan.obstacles)

-- what the edit removes or moves is there
abbrev pub is_there : Plan → Edit → Bool
is_there plan (Remove name) = list_any (is_obstacle_named name) plan.obstacles
is_there plan (Move name dx dy) = list_any (is_obstacle_named name) plan.obstacles
is_there plan (RemoveScreen name) = list_any (is_screen_named name) plan.screens
is_there plan (RemoveRoute name) = list_any (is_route_named name) plan.routes
is_there plan _ = true

-- ---- refusals

-- what a shifted polygon is refused for in the plan of the others: a point out of range, and where it stands
unfoldable pub why_not_moved : Plan → List Point → Option Why
why_not_moved others points = first_cause (
    when (not (list_all is_in_range points)) Range
    ∷ why_not_polygon_in others points
    ∷ [])

-- the first cause for which the edit is refused on the plan, or none
unfoldable pub why_not_edit : Plan → Edit → Option Why
why_not_edit plan (Add name points) = why_not_obstacle plan name points
why_not_edit plan (Remove name) = when (not (list_any (is_obstacle_named name) plan.obstacles)) Missing
why_not_edit plan (Move name dx dy) = first_cause (
    when (not (list_any (is_obstacle_named name) plan.obstacles)) Missing
    ∷ why_not_moved (others_of plan name) (moved_points plan name dx dy)
    ∷ [])
why_not_edit plan (AddScreen name from to) = why_not_screen plan name from to
why_not_edit plan (RemoveScreen name) = when (not (list_any (is_screen_named name) plan.screens)) Missing
why_not_edit plan (AddRoute name from to) = why_not_route plan name from to
why_not_edit plan (RemoveRoute name) = when (not (list_any (is_route_named name) plan.routes)) Missing

-- ---- the plan after the edit

-- what is new stands last, what is removed closes up, what is moved keeps its place
unfoldable pub plan_after_edit : Plan → Edit → Plan
plan_after_edit plan (Add name points) = with_item plan (ObstacleItem name points)
plan_after_edit plan (Remove name) = others_of plan name
plan_after_edit plan (Move name dx dy) = with_obstacles plan (map (λ o. if is_obstacle_named name o then shifted_obstacle dx dy o else o) plan.obstacles)
plan_after_edit plan (AddScreen name from to) = with_item plan (ScreenItem name from to)
plan_after_edit plan (RemoveScreen name) = with_screens plan (filter (λ s. not (is_screen_named name s)) plan.screens)
plan_after_edit plan (AddRoute name from to) = with_item plan (RouteItem name from to)
plan_after_edit plan (RemoveRoute name) = with_routes plan (filter (λ r. not (is_route_named name r)) plan.routes)

-- ---- the boxes

-- the boxes before and after
abbrev pub changed : Option PlanBox → Option PlanBox → Changed
changed first second = record { first = first; second = second }

-- the ends of the screens of this name
abbrev pub ends_named : List ℕ → List Screen → List Point
ends_named name screens = flat_map (λ s. s.from ∷ s.to ∷ []) (filter (is_screen_named name) screens)

-- the boxes of the obstacle or screen before and after the edit; a route has none
unfoldable pub changed_boxes : Plan → Edit → Changed
changed_boxes plan (Add name points) = changed None (box_of_points points)
changed_boxes plan (Remove name) = changed (box_of_points (points_named name plan.obstacles)) None
changed_boxes plan (Move name dx dy) =
    changed (box_of_points (points_named name plan.obstacles)) (box_of_points (moved_points plan name dx dy))
changed_boxes plan (AddScreen name from to) = changed None (box_of_points (from ∷ to ∷ []))
changed_boxes plan (RemoveScreen name) = changed (box_of_points (ends_named name plan.screens)) None
changed_boxes plan (AddRoute name from to) = changed None None
changed_boxes plan (RemoveRoute name) = changed None None

-- ---- two plans

-- an edit that nothing refuses makes the plan after of the sound plan before, and these are its boxes
pub record IsEditBetween (before after : Plan) (boxes : Changed) : Type 0 where
  pub edit : Edit
  pub sound : is_sound before ≡ true
  pub valid : why_not_edit before edit ≡ None
  pub makes : after ≡ plan_after_edit before edit
  pub has : boxes ≡ changed_boxes before edit

-- A floor plan: its outer polygon, its grid, its obstacles, screens and routes.
use Rattle.std.specs.Prelude.{ℕ, ◌+◌, ◌*◌, List, [], ◌∷◌, ◌++◌, Option, Some, None, Bool, true, false, length, map}
use Rattle.std.specs.List.{sum_by}
use Rattle.std.specs.Str.{bytes_eq}
use Rattle.plane_spec.specs.declared.Point.{Point}
use Rattle.plan_spec.specs.declared.item.GridSpec.{GridSpec}
use Rattle.plan_spec.specs.declared.item.Screen.{Screen}
use Rattle.plan_spec.specs.declared.item.Route.{Route}
use Rattle.plan_spec.specs.declared.item.Item.{Item}
use Rattle.plan_spec.specs.declared.item.Item.TheVariants.{Grid, Outer, Obstacle as ObstacleItem, Screen as ScreenItem, Route as RouteItem}

-- a polygon that blocks what is inside it, and its name
pub record Obstacle : Type 0 where
  pub name : List ℕ
  pub points : List Point

-- the parts of a plan, each kind in the order in which it came; as long as the outer polygon hasn't come, it has no
-- points
pub record Plan : Type 0 where
  pub outer : List Point
  pub grid : Option GridSpec
  pub obstacles : List Obstacle
  pub screens : List Screen
  pub routes : List Route

-- ---- the parts by name

-- the obstacle, the screen and the route of this name
abbrev pub obstacle : List ℕ → List Point → Obstacle
obstacle name points = record { name = name; points = points }

abbrev pub screen : List ℕ → Point → Point → Screen
screen name from to = record { name = name; from = from; to = to }

abbrev pub route : List ℕ → Point → Point → Route
route name from to = record { name = name; from = from; to = to }

-- the obstacle, the screen or the route has this name
abbrev pub is_obstacle_named : List ℕ → Obstacle → Bool
is_obstacle_named name o = bytes_eq o.name name

abbrev pub is_screen_named : List ℕ → Screen → Bool
is_screen_named name s = bytes_eq s.name name

abbrev pub is_route_named : List ℕ → Route → Bool
is_route_named name r = bytes_eq r.name name

-- ---- plans with other parts

-- the plan with these in place of its own
abbrev pub with_outer : Plan → List Point → Plan
with_outer plan outer = record plan { outer = outer }

abbrev pub with_grid : Plan → Option GridSpec → Plan
with_grid plan grid = record plan { grid = grid }

abbrev pub with_obstacles : Plan → List Obstacle → Plan
with_obstacles plan obstacles = record plan { obstacles = obstacles }

abbrev pub with_screens : Plan → List Screen → Plan
with_screens plan screens = record plan { screens = screens }

abbrev pub with_routes : Plan → List Route → Plan
with_routes plan routes = record plan { routes = routes }

-- the plan of no items
abbrev pub empty_plan : Plan
empty_plan = record { outer = []; grid = None; obstacles = []; screens = []; routes = [] }

-- the plan with one more item: a new obstacle, screen or route stands last
unfoldable pub with_item : Plan → Item → Plan
with_item plan (Grid spec) = with_grid plan (Some spec)
with_item plan (Outer points) = with_outer plan points
with_item plan (ObstacleItem name points) = with_obstacles plan (plan.obstacles ++ obstacle name points ∷ [])
with_item plan (ScreenItem name from to) = with_screens plan (plan.screens ++ screen name from to ∷ [])
with_item plan (RouteItem name from to) = with_routes plan (plan.routes ++ route name from to ∷ [])

-- the items added one after the other
unfoldable pub with_items : Plan → List Item → Plan
with_items plan [] = plan
with_items plan (item ∷ items) = with_items (with_item plan item) items

-- ---- counts

-- the outer polygon has come
abbrev pub has_outer : Plan → Bool
has_outer plan = is_some_points plan.outer
  where
    is_some_points : List Point → Bool
    is_some_points [] = false
    is_some_points _ = true

-- the corners of one obstacle
abbrev pub corners_of_obstacle_count : Obstacle → ℕ
corners_of_obstacle_count o = length o.points

-- the corners of the outer polygon and of all obstacles, and the two ends of each screen
abbrev pub corner_count : Plan → ℕ
corner_count plan = length plan.outer + sum_by corners_of_obstacle_count plan.obstacles + 2 * length plan.screens

-- ---- a plan as items

-- the grid as an item, where there is one
abbrev pub grid_items : Option GridSpec → List Item
grid_items None = []
grid_items (Some spec) = Grid spec ∷ []

-- an obstacle, a screen and a route as the item that adds it
abbrev pub obstacle_item : Obstacle → Item
obstacle_item o = ObstacleItem o.name o.points

abbrev pub screen_item : Screen → Item
screen_item s = ScreenItem s.name s.from s.to

abbrev pub route_item : Route → Item
route_item r = RouteItem r.name r.from r.to

-- the outer polygon, the grid if there is one, the obstacles, the screens, the routes
unfoldable pub items_of : Plan → List Item
items_of plan =
    Outer plan.outer
    ∷ (grid_items plan.grid ++ (map obstacle_item plan.obstacles ++ (map screen_item plan.screens ++ map route_item plan.routes)))

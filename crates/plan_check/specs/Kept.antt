-- What the tables of a draft stand for, and when a draft is a plan.
use Rattle.std.specs.Prelude.{◌≡◌, ◌⊎◌, IsTrue, ℕ, List, [], map, Option, slice_index_or}
use Rattle.plane_spec.specs.declared.Point.{Point}
use Rattle.plane_spec.specs.declared.Segment.{Segment}
use Rattle.plan_spec.specs.declared.item.GridSpec.{GridSpec}
use Rattle.plan_spec.specs.declared.item.Screen.{Screen}
use Rattle.plan_spec.specs.declared.item.Route.{Route}
use Rattle.plan_spec.specs.Plan.{Obstacle, Plan, obstacle, screen, route, empty_plan}
use Rattle.plan_spec.specs.Accepted.{is_sound}

-- the obstacle, the screen and the route of an entry by name
abbrev pub obstacle_of_entry : List ℕ × List Point → Obstacle
obstacle_of_entry e = obstacle e.0 e.1

abbrev pub screen_of_entry : List ℕ × Segment → Screen
screen_of_entry e = screen e.0 e.1.a e.1.b

abbrev pub route_of_entry : List ℕ × Segment → Route
route_of_entry e = route e.0 e.1.a e.1.b

-- the plan of these parts
abbrev pub plan_of_tables : List Point → Option GridSpec → List (List ℕ × List Point) → List (List ℕ × Segment) → List (List ℕ × Segment) → Plan
plan_of_tables outer grid obstacles screens routes = record {
  outer = outer;
  grid = grid;
  obstacles = map obstacle_of_entry obstacles;
  screens = map screen_of_entry screens;
  routes = map route_of_entry routes;
}

-- the k-th obstacle, counted from 0; past the last one it has no points
abbrev pub obstacle_at : Plan → ℕ → Obstacle
obstacle_at plan k = slice_index_or plan.obstacles k (obstacle [] [])

-- the plan of no items, or a sound one
abbrev pub IsDraft : Plan → Type 0
IsDraft plan = (plan ≡ empty_plan) ⊎ IsTrue (is_sound plan)

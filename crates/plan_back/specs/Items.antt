-- Where each kind of item stands among the items of a plan.
use Rattle.std.specs.Prelude.{ℕ, ◌+◌, length}
use Rattle.plan_spec.specs.Plan.{Plan, grid_items}

-- the outer polygon, and the grid if there is one, stand before the obstacles
abbrev pub items_before_obstacles : Plan → ℕ
items_before_obstacles plan = 1 + length (grid_items plan.grid)

-- and these and the obstacles before the screens
abbrev pub items_before_screens : Plan → ℕ
items_before_screens plan = items_before_obstacles plan + length plan.obstacles

-- and all of these before the routes
abbrev pub items_before_routes : Plan → ℕ
items_before_routes plan = items_before_screens plan + length plan.screens

-- A plan has few items.
use Rattle.std.specs.Prelude.{◌≤◌, Option, Some, None, length}
use Rattle.std.proofs.Common.{arith}
use Rattle.plan_spec.specs.declared.item.GridSpec.{GridSpec}
use Rattle.plan_spec.specs.Plan.{Plan, grid_items}
use Rattle.plan_back.specs.Items.{items_before_obstacles}

-- one grid at most
one_grid : (grid : Option GridSpec) → length (grid_items grid) ≤ 1
one_grid None = omega arith
one_grid (Some g) = omega arith

pub few_before_obstacles : (p : Plan) → items_before_obstacles p ≤ 2
few_before_obstacles p = omega (arith, one_grid p.grid)

-- The trial plan of a number: as many boxes, each in a cell of its own, under a grid.
use Rattle.std.specs.Prelude.{ℕ, zero, suc, ◌+◌, ◌*◌, ◌/◌, ◌%◌, nat_le, pos, List, [], ◌∷◌, ◌++◌, length, map, codes, if◌then◌else◌}
use Rattle.std.specs.Fmt.{decimal}
use Rattle.std.specs.List.{range_with_len, sum_by}
use Rattle.plane_spec.specs.declared.Point.{Point}
use Rattle.plane_spec.specs.Vectors.{point}
use Rattle.plan_spec.specs.declared.item.Item.{Item}
use Rattle.plan_spec.specs.declared.item.Item.TheVariants.{Grid, Outer, Obstacle}
use Rattle.plan_spec.specs.Plan.{Plan, empty_plan, with_items}
use Rattle.plan_spec.specs.Grid.{grid_points}
use Rattle.sight_spec.specs.Visibility.{open_points, visibility_edges, visibility_graph}
use Rattle.graph_spec.specs.Graphs.{Graph, depths_of, total_depth}

-- the least number from `root` on, of so many, whose square is at least n
abbrev pub root_from : ℕ → ℕ → ℕ → ℕ
root_from n root zero = root
root_from n root (suc more) = if nat_le n (root * root) then root else root_from n (root + 1) more

-- the least whole number whose square is at least n
abbrev pub root_above : ℕ → ℕ
root_above n = root_from n 0 n

-- the box with sides of so many, from its lower left corner, counterclockwise
abbrev pub square_at : ℕ → ℕ → ℕ → List Point
square_at x y side =
    point (pos x) (pos y) ∷ point (pos (x + side)) (pos y)
    ∷ point (pos (x + side)) (pos (y + side)) ∷ point (pos x) (pos (y + side)) ∷ []

-- box i of a plan of c by c cells of 100 by 100: its place in the cell varies with i
abbrev pub trial_box : ℕ → ℕ → Item
trial_box c i =
    Obstacle (codes "b" ++ decimal i)
    (square_at (100 * (i % c) + 10 + (17 * i) % 41) (100 * (i / c) + 10 + (29 * i) % 41) 40)

-- the items of a plan of n boxes in c by c cells: a square room, a grid of four points a cell, and the boxes
abbrev pub trial_items_by : ℕ → ℕ → List Item
trial_items_by n c =
    Outer (square_at 0 0 (100 * c))
    ∷ Grid (record { step = pos 50; x0 = pos 25; y0 = pos 25; cols = pos (2 * c); rows = pos (2 * c) })
    ∷ map (trial_box c) (range_with_len 0 n)

-- the items of the trial plan of n boxes
unfoldable pub trial_items : ℕ → List Item
trial_items n = trial_items_by n (root_above n)

-- the trial plan of n boxes
unfoldable pub trial_plan : ℕ → Plan
trial_plan n = with_items empty_plan (trial_items n)

-- the sum of the depths from a numbered point
abbrev pub total_from : Graph → ℕ × Point → ℕ
total_from graph e = total_depth (depths_of graph e.0)

-- the sum of the depths between each two open points, both ways
abbrev pub total_of_depths : Plan → ℕ
total_of_depths plan = sum_by (total_from (visibility_graph plan)) (open_points plan)

-- the record of a trial: how many boxes, grid points, open ones and edges, and the sum of the depths
unfoldable pub trial_record : ℕ → ℕ → ℕ → ℕ → ℕ → List (List ℕ)
trial_record boxes points open_ones edges depth =
    codes "trial" ∷ decimal boxes
    ∷ codes "points" ∷ decimal points
    ∷ codes "open" ∷ decimal open_ones
    ∷ codes "edges" ∷ decimal edges
    ∷ codes "depth" ∷ decimal depth
    ∷ []

-- the record of the trial of n boxes on a plan
abbrev pub trial_record_of : ℕ → Plan → List (List ℕ)
trial_record_of n plan =
    trial_record n (length (grid_points plan.grid)) (length (open_points plan)) (length (visibility_edges plan))
    (total_of_depths plan)

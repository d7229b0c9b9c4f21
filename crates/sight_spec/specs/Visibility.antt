-- The grid points that are open, and their visibility graph.
use Rattle.std.specs.Prelude.{ℕ, Bool, ◌&&◌, List, map, filter, length}
use Rattle.std.specs.List.{enumerate_from}
use Rattle.plane_spec.specs.declared.Point.{Point}
use Rattle.plane_spec.specs.Lists.{numbered_pairs}
use Rattle.plan_spec.specs.Plan.{Plan}
use Rattle.plan_spec.specs.Grid.{grid_points, point_of_number}
use Rattle.graph_spec.specs.Graphs.{Graph, graph_where}
use Rattle.sight_spec.specs.Scene.{Scene, scene_of}
use Rattle.sight_spec.specs.Sight.{are_in_sight, is_open}

-- the grid points that are open, each beside its number
abbrev pub open_points : Plan → List (ℕ × Point)
open_points plan = filter (λ e. is_open plan e.1) (enumerate_from 0 (grid_points plan.grid))

-- ---- the visibility graph

-- both points are open, and they see each other
abbrev pub are_visible : Plan → Scene → Point → Point → Bool
are_visible plan scene p q = (is_open plan p && is_open plan q) && are_in_sight scene p q

-- the numbered points are open and see each other
abbrev pub is_visible_pair : Plan → Scene → (ℕ × Point) × (ℕ × Point) → Bool
is_visible_pair plan scene e = are_visible plan scene e.0.1 e.1.1

-- the numbers of two numbered points
abbrev pub numbers_of_pair : (ℕ × Point) × (ℕ × Point) → ℕ × ℕ
numbers_of_pair e = (e.0.0, e.1.0)

-- the pairs of grid points that are open and see each other, the smaller number first, in order
unfoldable pub visibility_edges : Plan → List (ℕ × ℕ)
visibility_edges plan =
    map numbers_of_pair (filter (is_visible_pair plan (scene_of plan)) (numbered_pairs (grid_points plan.grid)))

-- the graph over the grid's points that joins different ones that are open and see each other
abbrev pub visibility_graph : Plan → Graph
visibility_graph plan =
    graph_where (length (grid_points plan.grid))
    (λ i j. are_visible plan (scene_of plan) (point_of_number plan.grid i) (point_of_number plan.grid j))

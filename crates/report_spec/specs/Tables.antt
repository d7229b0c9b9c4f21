-- The tables, first over the values that stand in them, and then those of a plan.
use Rattle.std.specs.Prelude.{ℕ, ◌-◌, nat_le, List, [], ◌∷◌, ◌++◌, map, length, codes, get_or, count_by, Option, None, is_some, if◌then◌else◌}
use Rattle.std.specs.Fmt.{decimal, signed_decimal}
use Rattle.std.specs.List.{enumerate_from}
use Rattle.plane_spec.specs.declared.Point.{Point}
use Rattle.plan_spec.specs.declared.item.Item.{Item}
use Rattle.plan_spec.specs.declared.item.Route.{Route}
use Rattle.plan_spec.specs.Plan.{Plan, items_of}
use Rattle.sight_spec.specs.Scene.{scene_of}
use Rattle.sight_spec.specs.Visibility.{open_points, visibility_edges, visibility_graph}
use Rattle.sight_spec.specs.Isovist.{Isovist, Triangle, isovist_in}
use Rattle.graph_spec.specs.Graphs.{Measures, depths_of, measures_of_nodes, mean_depth, no_measures, total_depth}
use Rattle.sight_spec.specs.Axial.{AxialLine, axial_lines, crossing_graph}
use Rattle.route_spec.specs.Routes.{Piece, pieces_of, neighbour_counts, turn_depths_of}
use Rattle.report_spec.specs.Records.{fraction_field, number_or_dash, fraction_or_dash, rpoint_fields, table, table_with_total}
use Rattle.grammar_spec.specs.PlanText.{plan_words}

-- ---- the visibility graph

-- i, j
abbrev pub edge_row : ℕ × ℕ → List (List ℕ)
edge_row e = decimal e.0 ∷ decimal e.1 ∷ []

-- the edges in their order: i, j
abbrev pub edges_table : List (ℕ × ℕ) → List (List (List ℕ))
edges_table edges = table (codes "edges") (map edge_row edges)

-- connectivity, reached, total, mean, relative asymmetry
abbrev pub measure_fields : Measures → List (List ℕ)
measure_fields m =
    decimal m.connectivity ∷ decimal m.reached ∷ decimal m.total
    ∷ fraction_or_dash m.mean ∷ fraction_or_dash m.asymmetry ∷ []

-- a numbered point, with the measures that stand at its number
abbrev pub point_row : List Measures → ℕ × Point → List (List ℕ)
point_row measures e =
    decimal e.0 ∷ signed_decimal e.1.x ∷ signed_decimal e.1.y ∷ measure_fields (get_or measures e.0 no_measures)

-- numbered points, by the measures of all nodes: number, x, y, connectivity, reached, total, mean, relative asymmetry
unfoldable pub points_table : List (ℕ × Point) → List Measures → List (List (List ℕ))
points_table points measures = table (codes "points") (map (point_row measures) points)

-- a numbered point, with the depth that stands at its number
abbrev pub depth_row : List (Option ℕ) → ℕ × Point → List (List ℕ)
depth_row depths e = decimal e.0 ∷ number_or_dash (get_or depths e.0 None) ∷ []

-- numbered points, by the depths of all nodes: number, depth
unfoldable pub depth_table : List (ℕ × Point) → List (Option ℕ) → List (List (List ℕ))
depth_table points depths = table (codes "depth") (map (depth_row depths) points)

-- ---- isovists

-- from x, from y, to x, to y, doubled area
abbrev pub triangle_row : Triangle → List (List ℕ)
triangle_row t = rpoint_fields t.from ++ (rpoint_fields t.to ++ fraction_field t.doubled_area ∷ [])

-- the triangles; then the sums of the floors and of the ceilings of their doubled areas
unfoldable pub isovist_table : Isovist → List (List (List ℕ))
isovist_table seen =
    table_with_total (codes "isovist") (map triangle_row seen.triangles)
    (signed_decimal seen.floor ∷ signed_decimal seen.ceil ∷ [])

-- number, number of triangles, floor, ceil
abbrev pub isovist_row : ℕ × Isovist → List (List ℕ)
isovist_row e =
    decimal e.0 ∷ decimal (length e.1.triangles) ∷ signed_decimal e.1.floor ∷ signed_decimal e.1.ceil ∷ []

-- isovists beside the numbers of their points: number, number of triangles, floor, ceil
unfoldable pub isovists_table : List (ℕ × Isovist) → List (List (List ℕ))
isovists_table isovists = table (codes "isovists") (map isovist_row isovists)

-- ---- axial lines

-- number, first corner, second corner, from x, from y, to x, to y
abbrev pub axial_row : ℕ × AxialLine → List (List ℕ)
axial_row e =
    decimal e.0 ∷ decimal e.1.first ∷ decimal e.1.second ∷ (rpoint_fields e.1.from ++ rpoint_fields e.1.to)

-- the lines by their numbers: number, first corner, second corner, from x, from y, to x, to y
unfoldable pub axial_table : List AxialLine → List (List (List ℕ))
axial_table lines = table (codes "axial") (map axial_row (enumerate_from 0 lines))

-- number, connectivity, reached, total, mean, relative asymmetry
abbrev pub line_row : ℕ × Measures → List (List ℕ)
line_row e = decimal e.0 ∷ measure_fields e.1

-- the measures of the lines by their numbers: number, connectivity, reached, total, mean, relative asymmetry
unfoldable pub lines_table : List Measures → List (List (List ℕ))
lines_table measures = table (codes "lines") (map line_row (enumerate_from 0 measures))

-- ---- routes

-- the name of the route of a number, or nothing for a number that no route has
abbrev pub route_name : List Route → ℕ → List ℕ
route_name [] k = []
route_name (r ∷ routes) k = if nat_le 1 k then route_name routes (k - 1) else r.name

-- number, route name, from x, from y, to x, to y, and the number of neighbours that stands at its number
abbrev pub segment_row : List Route → List ℕ → ℕ × Piece → List (List ℕ)
segment_row routes neighbours e =
    decimal e.0 ∷ route_name routes e.1.route
    ∷ (rpoint_fields e.1.from ++ (rpoint_fields e.1.to ++ decimal (get_or neighbours e.0 0) ∷ []))

-- the pieces of routes, by how many neighbours each has: number, route name, from x, from y, to x, to y, neighbours
unfoldable pub segments_table : List Route → List Piece → List ℕ → List (List (List ℕ))
segments_table routes pieces neighbours =
    table (codes "segments") (map (segment_row routes neighbours) (enumerate_from 0 pieces))

-- number, turn depth
abbrev pub turn_row : ℕ × Option ℕ → List (List ℕ)
turn_row e = decimal e.0 ∷ number_or_dash e.1 ∷ []

-- how many pieces have a turn depth, the sum of these, and their mean over the pieces other than the source
abbrev pub turn_totals : List (Option ℕ) → List (List ℕ)
turn_totals depths =
    decimal (count_by is_some depths) ∷ decimal (total_depth depths)
    ∷ fraction_or_dash (mean_depth (count_by is_some depths) (total_depth depths)) ∷ []

-- the turn depths of the pieces by their numbers: number, turn depth; then how many are reached, total and mean
unfoldable pub turns_table : List (Option ℕ) → List (List (List ℕ))
turns_table depths = table_with_total (codes "turns") (map turn_row (enumerate_from 0 depths)) (turn_totals depths)

-- ---- the plan

-- the lines of the text of a plan with these items, the header counted
unfoldable pub plan_table : List Item → List (List (List ℕ))
plan_table items = table (codes "plan") (plan_words items)

-- ---- the tables of a plan

-- the pairs of open grid points that see each other
abbrev pub edges_table_of : Plan → List (List (List ℕ))
edges_table_of plan = edges_table (visibility_edges plan)

-- the open points, with their measures in the visibility graph
abbrev pub points_table_of : Plan → List (List (List ℕ))
points_table_of plan = points_table (open_points plan) (measures_of_nodes (visibility_graph plan))

-- the open points, with their depths in the visibility graph from a node
abbrev pub depth_table_of : Plan → ℕ → List (List (List ℕ))
depth_table_of plan source = depth_table (open_points plan) (depths_of (visibility_graph plan) source)

-- the isovist from a point
abbrev pub isovist_table_of : Plan → Point → List (List (List ℕ))
isovist_table_of plan p = isovist_table (isovist_in (scene_of plan) p)

-- the isovist from each open point
abbrev pub isovists_table_of : Plan → List (List (List ℕ))
isovists_table_of plan = isovists_table (map (λ e. (e.0, isovist_in (scene_of plan) e.1)) (open_points plan))

-- the axial lines
abbrev pub axial_table_of : Plan → List (List (List ℕ))
axial_table_of plan = axial_table (axial_lines (scene_of plan))

-- the measures of the axial lines in their crossing graph
abbrev pub lines_table_of : Plan → List (List (List ℕ))
lines_table_of plan = lines_table (measures_of_nodes (crossing_graph (axial_lines (scene_of plan))))

-- the pieces of the routes
abbrev pub segments_table_of : Plan → List (List (List ℕ))
segments_table_of plan = segments_table plan.routes (pieces_of plan) (neighbour_counts (pieces_of plan))

-- the turn depths of the pieces of the routes from one of them
abbrev pub turns_table_of : Plan → ℕ → List (List (List ℕ))
turns_table_of plan source = turns_table (turn_depths_of (pieces_of plan) source)

-- the plan's text
abbrev pub plan_table_of : Plan → List (List (List ℕ))
plan_table_of plan = plan_table (items_of plan)

-- Polygons, as the list of their points in order: the last is joined to the first.
use Rattle.std.specs.Prelude.{ℕ, ◌+◌, ◌%◌, ◌==◌, nat_le, count_by, ℤ, pos, ◌+ℤ◌, Bool, ◌&&◌, ◌||◌, not, int_lt, int_le, List, [], ◌∷◌, length, if◌then◌else◌}
use Rattle.std.specs.List.{list_any, list_all}
use Rattle.plane_spec.specs.declared.Point.{Point}
use Rattle.plane_spec.specs.declared.Segment.{Segment}
use Rattle.plane_spec.specs.Lists.{numbered_pairs}
use Rattle.plane_spec.specs.Vectors.{cross_of, orient_of, same_point}
use Rattle.plane_spec.specs.Segments.{is_on_segment, do_touch}

-- ---- edges

-- the edges from each point to the next, and from the last one to `first`
unfoldable pub edges_to : Point → List Point → List Segment
edges_to first [] = []
edges_to first (p ∷ []) = record { a = p; b = first } ∷ []
edges_to first (p ∷ q ∷ points) = record { a = p; b = q } ∷ edges_to first (q ∷ points)

-- the edges of a polygon, from each point to the next, and from the last one to the first
abbrev pub edges_of : List Point → List Segment
edges_of [] = []
edges_of (p ∷ points) = edges_to p (p ∷ points)

-- x lies on the edge, its ends counted
abbrev pub is_on_edge : Point → Segment → Bool
is_on_edge x e = is_on_segment x e.a e.b

-- x lies on an edge of the polygon
abbrev pub is_on_border : Point → List Point → Bool
is_on_border x points = list_any (is_on_edge x) (edges_of points)

-- the two edges share a point
abbrev pub edges_touch : Segment → Segment → Bool
edges_touch e f = do_touch e.a e.b f.a f.b

-- an edge of one polygon touches an edge of the other
abbrev pub borders_touch : List Point → List Point → Bool
borders_touch points others = list_any (λ e. list_any (edges_touch e) (edges_of others)) (edges_of points)

-- ---- inside

-- one end of the edge is above x and the other isn't, and x is strictly left of the edge where it is directed upwards
unfoldable pub passes_right : Point → Segment → Bool
passes_right x e =
    if int_le e.a.y x.y
    then (int_lt x.y e.b.y && int_lt (pos 0) (orient_of e.a e.b x))
    else (int_le e.b.y x.y && int_lt (orient_of e.a e.b x) (pos 0))

-- x lies on no edge, and the edges that pass strictly to its right are odd in number
unfoldable pub is_inside : Point → List Point → Bool
is_inside x points = not (is_on_border x points) && (count_by (passes_right x) (edges_of points) % 2 == 1)

-- ---- which way round

-- twice the area that the edges go round, positive where they go round it counterclockwise
abbrev pub doubled_area : List Segment → ℤ
doubled_area [] = pos 0
doubled_area (e ∷ edges) = cross_of e.a e.b +ℤ doubled_area edges

-- the points go round counterclockwise
unfoldable pub is_counterclockwise : List Point → Bool
is_counterclockwise points = int_lt (pos 0) (doubled_area (edges_of points))

-- ---- simple

-- an edge whose ends are one point
abbrev pub is_nothing : Segment → Bool
is_nothing e = same_point e.a e.b

-- two neighbouring points are equal, the last and the first among them
abbrev pub has_repeat : List Point → Bool
has_repeat points = list_any is_nothing (edges_of points)

-- the second edge begins where the first ends, and they share more than that corner: an end of one lies on the other
abbrev pub folds_back : Segment → Segment → Bool
folds_back e f = is_on_edge e.a f || is_on_edge f.b e

-- two edges of a polygon of so many edges, each with its number, the smaller first: neighbours share only their common
-- corner, others don't touch
unfoldable pub may_be_edges : ℕ → (ℕ × Segment) × (ℕ × Segment) → Bool
may_be_edges count e =
    if e.1.0 == e.0.0 + 1 then not (folds_back e.0.1 e.1.1)
    else (if (e.0.0 == 0) && (e.1.0 + 1 == count) then not (folds_back e.1.1 e.0.1) else not (edges_touch e.0.1 e.1.1))

-- neighbouring edges share only their common corner, and no other two edges touch
unfoldable pub crosses_nowhere : List Point → Bool
crosses_nowhere points = list_all (may_be_edges (length points)) (numbered_pairs (edges_of points))

-- at least three points, neighbouring points differ, neighbouring edges share only their common corner, and no other
-- two edges touch
abbrev pub is_simple : List Point → Bool
is_simple points = nat_le 3 (length points) && (not (has_repeat points) && crosses_nowhere points)

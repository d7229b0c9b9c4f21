-- What holds of all points of a polygon holds of the ends of its walls and of its corners.
use Rattle.std.specs.Prelude.{Bool, true, false, cond, List, [], ◌∷◌, map}
use Rattle.std.specs.List.{All}
use Rattle.std.proofs.lemmas.List.Elements.{All-nil, All-cons, All-head, All-tail, All-map, All-weaker}
use Rattle.plane_spec.specs.declared.Orientation.{Orientation}
use Rattle.plane_spec.specs.declared.Point.{Point}
use Rattle.plane_spec.specs.declared.Segment.{Segment}
use Rattle.plane_spec.specs.declared.Corner.{Corner}
use Rattle.plane_spec.specs.declared.Orientation.TheVariants.{Counterclockwise, Clockwise}
use Rattle.plane_spec.specs.Polygons.{edges_to, edges_of}
use Rattle.plane_spec.specs.Cones.{corner}
use Rattle.sight_spec.specs.Scene.{turned_edge, has_orientation, oriented_walls, corners_after, last_edge, corners_along}
use Rattle.sight_spec.specs.Scene.{turned_corner, oriented_corners, walls_of_obstacle, corners_of_obstacle}
use Rattle.plan_spec.specs.Plan.{Obstacle}
use Rattle.box_laws.specs.Boxes.{OfEnds, OfCorner}

-- ---- edges

-- the edges along points and back to a first one
edges_to_held : (P : Point → Type 0) (first : Point) (points : List Point) → P first → All P points
    → All (OfEnds P) (edges_to first points)
unfolding edges_to
edges_to_held P first [] f all = All-nil (OfEnds P)
edges_to_held P first (p ∷ []) f all =
    All-cons (OfEnds P) (record { a = p; b = first }) [] (record { a = All-head P p [] all; b = f })
    (All-nil (OfEnds P))
edges_to_held P first (p ∷ q ∷ points) f all =
    let later = All-tail P p (q ∷ points) all in
    All-cons (OfEnds P) (record { a = p; b = q }) (edges_to first (q ∷ points))
    (record { a = All-head P p (q ∷ points) all; b = All-head P q points later })
    (edges_to_held P first (q ∷ points) f later)

-- what holds of all points holds of the ends of all edges round them
pub edges_held : (P : Point → Type 0) (points : List Point) → All P points → All (OfEnds P) (edges_of points)
edges_held P [] all = All-nil (OfEnds P)
edges_held P (p ∷ points) all = edges_to_held P p (p ∷ points) (All-head P p points all) all

-- turned edges have the same ends
turned_held : (P : Point → Type 0) (edges : List Segment) → All (OfEnds P) edges
    → All (OfEnds P) (map turned_edge edges)
turned_held P edges all =
    All-map (OfEnds P) turned_edge edges
    (All-weaker (OfEnds P) (λ e. OfEnds P (turned_edge e)) (λ e h. record { a = h.b; b = h.a }) edges all)

-- what holds of all points holds of the ends of all walls round them
pub walls_held : (P : Point → Type 0) (way : Orientation) (points : List Point) → All P points
    → All (OfEnds P) (oriented_walls way points)
unfolding oriented_walls
walls_held P way points all = by_way (has_orientation way points)
  where
    by_way : (t : Bool) → All (OfEnds P) (cond t (edges_of points) (map turned_edge (edges_of points)))
    by_way true = edges_held P points all
    by_way false = turned_held P (edges_of points) (edges_held P points all)

-- what holds of all points of an obstacle holds of the ends of its walls
pub obstacle_walls_held : (P : Point → Type 0) (o : Obstacle) → All P o.points → All (OfEnds P) (walls_of_obstacle o)
obstacle_walls_held P o all = walls_held P Counterclockwise o.points all

-- ---- corners

-- corners at the beginnings of edges
corners_after_held : (P : Point → Type 0) (before : Segment) (edges : List Segment) → All (OfEnds P) edges
    → All (OfCorner P) (corners_after before edges)
corners_after_held P before [] all = All-nil (OfCorner P)
corners_after_held P before (e ∷ edges) all =
    All-cons (OfCorner P) (corner before.a e.a e.b) (corners_after e edges) (All-head (OfEnds P) e edges all).a
    (corners_after_held P e edges (All-tail (OfEnds P) e edges all))

-- corners along edges
corners_along_held : (P : Point → Type 0) (edges : List Segment) → All (OfEnds P) edges
    → All (OfCorner P) (corners_along edges)
corners_along_held P [] all = All-nil (OfCorner P)
corners_along_held P (e ∷ edges) all = corners_after_held P (last_edge e edges) (e ∷ edges) all

-- what holds of all points holds of all corners at them
pub corners_held : (P : Point → Type 0) (way : Orientation) (points : List Point) → All P points
    → All (OfCorner P) (oriented_corners way points)
unfolding oriented_corners
corners_held P way points all = by_way (has_orientation way points)
  where
    held : All (OfCorner P) (corners_along (edges_of points))
    held = corners_along_held P (edges_of points) (edges_held P points all)

    by_way : (t : Bool) → All (OfCorner P)
        (cond t (corners_along (edges_of points)) (map turned_corner (corners_along (edges_of points))))
    by_way true = held
    by_way false = All-map (OfCorner P) turned_corner (corners_along (edges_of points)) held

-- what holds of all points of an obstacle holds of its corners
pub obstacle_corners_held : (P : Point → Type 0) (o : Obstacle) → All P o.points
    → All (OfCorner P) (corners_of_obstacle o)
obstacle_corners_held P o all = corners_held P Counterclockwise o.points all

-- ---- the outer polygon

-- its walls
abbrev pub outer_walls : List Point → List Segment
outer_walls points = oriented_walls Clockwise points

-- and its corners
abbrev pub outer_corners : List Point → List Corner
outer_corners points = oriented_corners Clockwise points

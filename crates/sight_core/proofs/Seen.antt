-- The walls, screens and corners of a sound plan are in range.
use Rattle.std.proofs.Common.{Bool, true, false, List, [], ◌∷◌, ◌++◌, map}
use Rattle.std.specs.Prelude.{All, IsTrue}
use Rattle.std.specs.List.{flat_map}
use Rattle.std.proofs.lemmas.Bool.{cond_both}
use Rattle.std.proofs.lemmas.List.Elements.{All-nil, All-cons, All-head, All-tail, All-append, All-map, All-weaker}
use Rattle.plane_spec.specs.declared.Point.{Point}
use Rattle.plane_spec.specs.declared.Segment.{Segment}
use Rattle.plane_spec.specs.declared.Corner.{Corner}
use Rattle.plane_spec.specs.declared.Orientation.{Orientation}
use Rattle.plane_spec.specs.declared.Orientation.TheVariants.{Counterclockwise, Clockwise}
use Rattle.plane_spec.specs.Vectors.{InRange}
use Rattle.plane_spec.specs.Polygons.{edges_of}
use Rattle.plane_spec.specs.Segments.{IsSegmentInRange}
use Rattle.plane_spec.specs.Cones.{IsCornerInRange, corner}
use Rattle.exact_geom.proofs.Edges.{edges_of-in_range}
use Rattle.plan_spec.specs.declared.item.Screen.{Screen}
use Rattle.plan_spec.specs.Plan.{Plan}
use Rattle.plan_spec.specs.Accepted.{is_sound}
use Rattle.sight_spec.specs.Scene.{Scene, turned_edge, has_orientation, oriented_walls, walls_of_obstacle, walls_of, segment_of_screen, screens_of, corners_after, last_edge, corners_along, turned_corner, oriented_corners, corners_of_obstacle, screen_corner, ends_of_screen, corners_of}
use Rattle.sight_core.specs.Scenes.{IsOfSoundPlan}
use Rattle.sight_core.proofs.Sound.{IsObstacleInRange, IsScreenInRange, outer_in_range, obstacles_in_range, screens_in_range}

All-flat_map : {X Y : Type 0} (Q : X → Type 0) (P : Y → Type 0) (f : X → List Y) → ((x : X) → Q x → All P (f x)) → (xs : List X) → All Q xs → All P (flat_map f xs)
All-flat_map Q P f gives [] h = All-nil P
All-flat_map Q P f gives (x ∷ xs) h =
    All-append P (f x) (flat_map f xs) (gives x (All-head Q x xs h)) (All-flat_map Q P f gives xs (All-tail Q x xs h))

-- ---- walls

turned-in_range : (w : Segment) → IsSegmentInRange w → IsSegmentInRange (turned_edge w)
turned-in_range w h = record { a = h.b; b = h.a }

oriented_walls-in_range : (way : Orientation) (points : List Point) → All InRange points → All IsSegmentInRange (oriented_walls way points)
unfolding oriented_walls
oriented_walls-in_range way points h =
    let edges = edges_of-in_range points h in
    cond_both (has_orientation way points) (edges_of points) (map turned_edge (edges_of points)) (λ ws. All IsSegmentInRange ws)
    (λ _. edges)
    (λ _. All-map IsSegmentInRange turned_edge (edges_of points) (All-weaker IsSegmentInRange (λ w. IsSegmentInRange (turned_edge w)) turned-in_range (edges_of points) edges))

walls_of-in_range : (plan : Plan) → IsTrue (is_sound plan) → All IsSegmentInRange (walls_of plan)
walls_of-in_range plan sound =
    All-append IsSegmentInRange (oriented_walls Clockwise plan.outer) (flat_map walls_of_obstacle plan.obstacles)
    (oriented_walls-in_range Clockwise plan.outer (outer_in_range plan sound))
    (All-flat_map IsObstacleInRange IsSegmentInRange walls_of_obstacle (λ o h. oriented_walls-in_range Counterclockwise o.points h.points) plan.obstacles (obstacles_in_range plan sound))

screens_of-in_range : (plan : Plan) → IsTrue (is_sound plan) → All IsSegmentInRange (screens_of plan)
screens_of-in_range plan sound =
    All-map IsSegmentInRange segment_of_screen plan.screens
    (All-weaker IsScreenInRange (λ s. IsSegmentInRange (segment_of_screen s)) (λ s h. record { a = h.from; b = h.to }) plan.screens (screens_in_range plan sound))

-- ---- corners

corners_after-in_range : (before : Segment) (edges : List Segment) → IsSegmentInRange before → All IsSegmentInRange edges → All IsCornerInRange (corners_after before edges)
corners_after-in_range before [] b h = All-nil IsCornerInRange
corners_after-in_range before (e ∷ edges) b h =
    let first = All-head IsSegmentInRange e edges h in
    All-cons IsCornerInRange (corner before.a e.a e.b) (corners_after e edges)
    (record { prev = b.a; here = first.a; next = first.b })
    (corners_after-in_range e edges first (All-tail IsSegmentInRange e edges h))

last_edge-in_range : (e : Segment) (edges : List Segment) → IsSegmentInRange e → All IsSegmentInRange edges → IsSegmentInRange (last_edge e edges)
last_edge-in_range e [] first h = first
last_edge-in_range e (next ∷ edges) first h = last_edge-in_range next edges (All-head IsSegmentInRange next edges h) (All-tail IsSegmentInRange next edges h)

corners_along-in_range : (edges : List Segment) → All IsSegmentInRange edges → All IsCornerInRange (corners_along edges)
corners_along-in_range [] h = All-nil IsCornerInRange
corners_along-in_range (e ∷ edges) h =
    corners_after-in_range (last_edge e edges) (e ∷ edges)
    (last_edge-in_range e edges (All-head IsSegmentInRange e edges h) (All-tail IsSegmentInRange e edges h)) h

turned_corner-in_range : (c : Corner) → IsCornerInRange c → IsCornerInRange (turned_corner c)
turned_corner-in_range c h = record { prev = h.next; here = h.here; next = h.prev }

oriented_corners-in_range : (way : Orientation) (points : List Point) → All InRange points → All IsCornerInRange (oriented_corners way points)
unfolding oriented_corners
oriented_corners-in_range way points h =
    let corners = corners_along-in_range (edges_of points) (edges_of-in_range points h) in
    cond_both (has_orientation way points) (corners_along (edges_of points)) (map turned_corner (corners_along (edges_of points))) (λ cs. All IsCornerInRange cs)
    (λ _. corners)
    (λ _. All-map IsCornerInRange turned_corner (corners_along (edges_of points)) (All-weaker IsCornerInRange (λ c. IsCornerInRange (turned_corner c)) turned_corner-in_range (corners_along (edges_of points)) corners))

ends-in_range : (s : Screen) → IsScreenInRange s → All IsCornerInRange (ends_of_screen s)
ends-in_range s h =
    All-cons IsCornerInRange (screen_corner s.from) (screen_corner s.to ∷ []) (record { prev = h.from; here = h.from; next = h.from })
    (All-cons IsCornerInRange (screen_corner s.to) [] (record { prev = h.to; here = h.to; next = h.to }) (All-nil IsCornerInRange))

corners_of-in_range : (plan : Plan) → IsTrue (is_sound plan) → All IsCornerInRange (corners_of plan)
corners_of-in_range plan sound =
    let obstacles = All-flat_map IsObstacleInRange IsCornerInRange corners_of_obstacle (λ o h. oriented_corners-in_range Counterclockwise o.points h.points) plan.obstacles (obstacles_in_range plan sound) in
    let ends = All-flat_map IsScreenInRange IsCornerInRange ends_of_screen ends-in_range plan.screens (screens_in_range plan sound) in
    All-append IsCornerInRange (oriented_corners Clockwise plan.outer) (flat_map corners_of_obstacle plan.obstacles ++ flat_map ends_of_screen plan.screens)
    (oriented_corners-in_range Clockwise plan.outer (outer_in_range plan sound))
    (All-append IsCornerInRange (flat_map corners_of_obstacle plan.obstacles) (flat_map ends_of_screen plan.screens) obstacles ends)

-- ---- the scene

pub walls-in_range : (scene : Scene) → IsOfSoundPlan scene → All IsSegmentInRange scene.walls
walls-in_range scene h = rw h.seen (walls_of-in_range h.plan h.sound)

pub screens-in_range : (scene : Scene) → IsOfSoundPlan scene → All IsSegmentInRange scene.screens
screens-in_range scene h = rw h.seen (screens_of-in_range h.plan h.sound)

pub corners-in_range : (scene : Scene) → IsOfSoundPlan scene → All IsCornerInRange scene.corners
corners-in_range scene h = rw h.seen (corners_of-in_range h.plan h.sound)

-- The walls, screens and corners of a plan, as they are seen.
use Rattle.std.specs.Prelude.{Bool, not, List, [], ◌∷◌, ◌++◌, map, if◌then◌else◌}
use Rattle.std.specs.List.{flat_map}
use Rattle.plane_spec.specs.declared.Point.{Point}
use Rattle.plane_spec.specs.declared.Segment.{Segment}
use Rattle.plane_spec.specs.declared.Corner.{Corner}
use Rattle.plane_spec.specs.declared.Orientation.{Orientation}
use Rattle.plane_spec.specs.declared.Orientation.TheVariants.{Counterclockwise, Clockwise}
use Rattle.plane_spec.specs.Polygons.{edges_of, is_counterclockwise}
use Rattle.plane_spec.specs.Cones.{corner}
use Rattle.plan_spec.specs.declared.item.Screen.{Screen}
use Rattle.plan_spec.specs.Plan.{Obstacle, Plan}

-- what a plan is seen as; sight depends on nothing else
pub record Scene : Type 0 where
  pub walls : List Segment
  pub screens : List Segment
  pub corners : List Corner

-- ---- walls

-- the edge in its other direction
abbrev pub turned_edge : Segment → Segment
turned_edge e = record { a = e.b; b = e.a }

-- the points go round this way
abbrev pub has_orientation : Orientation → List Point → Bool
has_orientation Counterclockwise points = is_counterclockwise points
has_orientation Clockwise points = not (is_counterclockwise points)

-- the edges in the order of the points, each directed so that they go round this way
unfoldable pub oriented_walls : Orientation → List Point → List Segment
oriented_walls way points = if has_orientation way points then edges_of points else map turned_edge (edges_of points)

-- an obstacle's walls go round counterclockwise
abbrev pub walls_of_obstacle : Obstacle → List Segment
walls_of_obstacle o = oriented_walls Counterclockwise o.points

-- what is blocked lies left of each wall: the outer polygon's go clockwise, those of obstacles counterclockwise
abbrev pub walls_of : Plan → List Segment
walls_of plan = oriented_walls Clockwise plan.outer ++ flat_map walls_of_obstacle plan.obstacles

-- ---- screens

-- a screen from its first end to its second
abbrev pub segment_of_screen : Screen → Segment
segment_of_screen s = record { a = s.from; b = s.to }

-- the screens in plan order
abbrev pub screens_of : Plan → List Segment
screens_of plan = map segment_of_screen plan.screens

-- ---- corners

-- the corners at which edges begin: each between the edge before it, which for the first one is given, and its own
abbrev pub corners_after : Segment → List Segment → List Corner
corners_after before [] = []
corners_after before (e ∷ edges) = corner before.a e.a e.b ∷ corners_after e edges

-- the last of some edges, of which the first is given
abbrev pub last_edge : Segment → List Segment → Segment
last_edge e [] = e
last_edge e (next ∷ edges) = last_edge next edges

-- the corners at the points of a polygon with these edges, in order: the edge before the first is the last
abbrev pub corners_along : List Segment → List Corner
corners_along [] = []
corners_along (e ∷ edges) = corners_after (last_edge e edges) (e ∷ edges)

-- the corner between the same walls in their other direction
abbrev pub turned_corner : Corner → Corner
turned_corner c = corner c.next c.here c.prev

-- the corners in the order of the points, each between its neighbours in the direction of walls that go round this way
unfoldable pub oriented_corners : Orientation → List Point → List Corner
oriented_corners way points =
    if has_orientation way points then corners_along (edges_of points) else map turned_corner (corners_along (edges_of points))

-- an obstacle's corners, between neighbours that go round counterclockwise
abbrev pub corners_of_obstacle : Obstacle → List Corner
corners_of_obstacle o = oriented_corners Counterclockwise o.points

-- an end of a screen is a corner whose cone is empty
abbrev pub screen_corner : Point → Corner
screen_corner v = corner v v v

-- both ends of a screen
abbrev pub ends_of_screen : Screen → List Corner
ends_of_screen s = screen_corner s.from ∷ screen_corner s.to ∷ []

-- the corners are numbered in the order of the walls, and then come the ends of the screens
abbrev pub corners_of : Plan → List Corner
corners_of plan = oriented_corners Clockwise plan.outer ++ (flat_map corners_of_obstacle plan.obstacles ++ flat_map ends_of_screen plan.screens)

-- what stands in the way in a plan: its walls, its screens and their corners
abbrev pub scene_of : Plan → Scene
scene_of plan = record { walls = walls_of plan; screens = screens_of plan; corners = corners_of plan }

-- walls and then screens, as they are numbered
abbrev pub blockers_of_scene : Scene → List Segment
blockers_of_scene scene = scene.walls ++ scene.screens

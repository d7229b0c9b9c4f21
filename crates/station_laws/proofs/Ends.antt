-- The ends of walls and screens are corners, and corners are ends of walls and screens.
--
-- The points of a polygon are the first ends of its edges, and its corners stand at them; the second end of an edge is
-- the first end of the next one. A polygon that the scene directs the other way has the same points. Both ends of a
-- screen are corners. So all ends are among the points at which the scene's corners stand, and each of these is an
-- end.
use Rattle.std.proofs.Common.{◌≡◌, ℕ, zero, suc, ◌<◌, ap, refl, sym, ◌∙◌, List, [], ◌∷◌, ◌++◌, arith, subst}
use Rattle.std.proofs.Common.{length, get_or}
use Rattle.std.specs.Prelude.{Bool, true, false, cond, map, ◌&&◌, Some}
use Rattle.plane_spec.specs.Vectors.{vector}
use Rattle.std.specs.List.{list_any, list_all, flat_map}
use Rattle.std.proofs.lemmas.Bool.{and_from, and_parts}
use Rattle.std.proofs.lemmas.List.{map-append}
use Rattle.std.proofs.lemmas.List.Folds.{list_all-append}
use Rattle.plane_spec.specs.declared.Point.{Point}
use Rattle.plane_spec.specs.declared.Segment.{Segment}
use Rattle.plane_spec.specs.declared.Corner.{Corner}
use Rattle.plane_spec.specs.declared.Orientation.{Orientation}
use Rattle.plane_spec.specs.declared.Orientation.TheVariants.{Counterclockwise, Clockwise}
use Rattle.plane_spec.specs.Vectors.{same_point}
use Rattle.plane_spec.specs.Polygons.{edges_of, edges_to}
use Rattle.plan_spec.specs.declared.item.Screen.{Screen}
use Rattle.plan_spec.specs.Plan.{Obstacle, Plan}
use Rattle.sight_spec.specs.Scene.{last_edge, scene_of, blockers_of_scene, oriented_walls, oriented_corners}
use Rattle.sight_spec.specs.Scene.{corners_along}
use Rattle.sight_spec.specs.Scene.{corners_after, corners_of_obstacle, walls_of_obstacle, ends_of_screen, turned_corner}
use Rattle.sight_spec.specs.Scene.{turned_edge, has_orientation, segment_of_screen}
use Rattle.list_laws.proofs.Tests.{list_all_weaker}
use Rattle.front_laws.proofs.Tests.{by_cases, either_first, either_second, other_of_either, never}
use Rattle.apart_laws.proofs.Beside.{same_itself}
use Rattle.apart_laws.proofs.Plans.{points_same, same_length}
use Rattle.apart_laws.proofs.Through.{by_ends}
use Rattle.front_laws.specs.Seen.{Seen, seen_at}
use Rattle.sight_spec.specs.Isovist.{no_segment}
use Rattle.front_laws.proofs.Lists.{some_of}
use Rattle.front_laws.proofs.Tests.{mapped_at}
use Rattle.sweep_laws.specs.Groups.{no_corner}
use Rattle.round_laws.proofs.Bodies.{seen_of_number}
use Rattle.station_laws.specs.Grounds.{HasCornerAt}

-- ---- where corners stand

abbrev pub here_of : Corner → Point
here_of c = c.here

abbrev pub start_of : Segment → Point
start_of e = e.a

after_here : (before : Segment) (es : List Segment) → map here_of (corners_after before es) ≡ map start_of es
after_here before [] = refl
after_here before (e ∷ es) = ap (λ t. e.a ∷ t) (after_here e es)

along_here : (es : List Segment) → map here_of (corners_along es) ≡ map start_of es
along_here [] = refl
along_here (e ∷ es) = after_here (last_edge e es) (e ∷ es)

turned_here : (cs : List Corner) → map here_of (map turned_corner cs) ≡ map here_of cs
turned_here [] = refl
turned_here (c ∷ cs) = ap (λ t. c.here ∷ t) (turned_here cs)

starts_to : (first : Point) (points : List Point) → map start_of (edges_to first points) ≡ points
unfolding edges_to
starts_to first [] = refl
starts_to first (p ∷ []) = refl
starts_to first (p ∷ q ∷ points) = ap (λ t. p ∷ t) (starts_to first (q ∷ points))

pub starts_are : (points : List Point) → map start_of (edges_of points) ≡ points
starts_are [] = refl
starts_are (p ∷ points) = starts_to p (p ∷ points)

either_here : (b : Bool) (cs : List Corner) → map here_of (cond b cs (map turned_corner cs)) ≡ map here_of cs
either_here true cs = refl
either_here false cs = turned_here cs

-- the corners of a polygon stand at its points
pub polygon_here : (way : Orientation) (points : List Point) → map here_of (oriented_corners way points) ≡ points
unfolding oriented_corners
polygon_here way points =
    either_here (has_orientation way points) (corners_along (edges_of points))
    ∙ along_here (edges_of points) ∙ starts_are points

obstacles_here : (os : List Obstacle) → map here_of (flat_map corners_of_obstacle os) ≡ flat_map (λ o. o.points) os
obstacles_here [] = refl
obstacles_here (o ∷ os) =
    map-append here_of (corners_of_obstacle o) (flat_map corners_of_obstacle os)
    ∙ ap (λ t. t ++ map here_of (flat_map corners_of_obstacle os)) (polygon_here Counterclockwise o.points)
    ∙ ap (λ t. o.points ++ t) (obstacles_here os)

abbrev pub points_of_screen : Screen → List Point
points_of_screen s = s.from ∷ s.to ∷ []

screens_here : (ss : List Screen) → map here_of (flat_map ends_of_screen ss) ≡ flat_map points_of_screen ss
screens_here [] = refl
screens_here (s ∷ ss) = ap (λ t. s.from ∷ s.to ∷ t) (screens_here ss)

-- all points of a plan, in the order of its corners
abbrev pub points_of_plan : Plan → List Point
points_of_plan plan =
    plan.outer ++ (flat_map (λ o. o.points) plan.obstacles ++ flat_map points_of_screen plan.screens)

pub corners_here : (plan : Plan) → map here_of (scene_of plan).corners ≡ points_of_plan plan
corners_here plan =
    map-append here_of (oriented_corners Clockwise plan.outer)
    (flat_map corners_of_obstacle plan.obstacles ++ flat_map ends_of_screen plan.screens)
    ∙ ap (λ t. t ++ map here_of (flat_map corners_of_obstacle plan.obstacles ++ flat_map ends_of_screen plan.screens))
    (polygon_here Clockwise plan.outer)
    ∙ ap (λ t. plan.outer ++ t)
    (map-append here_of (flat_map corners_of_obstacle plan.obstacles) (flat_map ends_of_screen plan.screens)
    ∙ ap (λ t. t ++ map here_of (flat_map ends_of_screen plan.screens)) (obstacles_here plan.obstacles)
    ∙ ap (λ t. flat_map (λ o. o.points) plan.obstacles ++ t) (screens_here plan.screens))

-- ---- ends among points

abbrev pub is_one_of : List Point → Point → Bool
is_one_of points x = list_any (same_point x) points

-- both ends are among the points
abbrev pub has_ends_in : List Point → Segment → Bool
has_ends_in points e = is_one_of points e.a && is_one_of points e.b

first_of_two : (x : Point) (xs ys : List Point) → is_one_of xs x ≡ true → is_one_of (xs ++ ys) x ≡ true
first_of_two x [] ys h = absurd (never h)
first_of_two x (y ∷ xs) ys h =
    by_cases (same_point x y)
    (λ e. either_first (same_point x y) (is_one_of (xs ++ ys) x) e)
    (λ n. either_second (same_point x y) (is_one_of (xs ++ ys) x)
    (first_of_two x xs ys (other_of_either (same_point x y) (is_one_of xs x) n h)))

second_of_two : (x : Point) (xs ys : List Point) → is_one_of ys x ≡ true → is_one_of (xs ++ ys) x ≡ true
second_of_two x [] ys h = h
second_of_two x (y ∷ xs) ys h = either_second (same_point x y) (is_one_of (xs ++ ys) x) (second_of_two x xs ys h)

wider : (xs ys : List Point) (e : Segment) → has_ends_in xs e ≡ true → has_ends_in (xs ++ ys) e ≡ true
wider xs ys e h =
    let two = and_parts (is_one_of xs e.a) (is_one_of xs e.b) h in
    and_from (is_one_of (xs ++ ys) e.a) (is_one_of (xs ++ ys) e.b) (first_of_two e.a xs ys two.0)
    (first_of_two e.b xs ys two.1)

wider_after : (xs ys : List Point) (e : Segment) → has_ends_in ys e ≡ true → has_ends_in (xs ++ ys) e ≡ true
wider_after xs ys e h =
    let two = and_parts (is_one_of ys e.a) (is_one_of ys e.b) h in
    and_from (is_one_of (xs ++ ys) e.a) (is_one_of (xs ++ ys) e.b) (second_of_two e.a xs ys two.0)
    (second_of_two e.b xs ys two.1)

all_wider : (xs ys : List Point) (es : List Segment) → list_all (has_ends_in xs) es ≡ true
    → list_all (has_ends_in (xs ++ ys)) es ≡ true
all_wider xs ys es h = list_all_weaker (has_ends_in xs) (has_ends_in (xs ++ ys)) (wider xs ys) es h

all_wider_after : (xs ys : List Point) (es : List Segment) → list_all (has_ends_in ys) es ≡ true
    → list_all (has_ends_in (xs ++ ys)) es ≡ true
all_wider_after xs ys es h = list_all_weaker (has_ends_in ys) (has_ends_in (xs ++ ys)) (wider_after xs ys) es h

-- ---- polygons

-- the edges on from p, the last one to `first`, with all points among those of the list
on_to : (first : Point) (all points : List Point) → is_one_of all first ≡ true → list_all (is_one_of all) points ≡ true
    → list_all (has_ends_in all) (edges_to first points) ≡ true
unfolding edges_to
on_to first all [] f h = refl
on_to first all (p ∷ []) f h =
    let parts = and_parts (is_one_of all p) true h in
    and_from (has_ends_in all (record { a = p; b = first })) true
    (and_from (is_one_of all p) (is_one_of all first) parts.0 f) refl
on_to first all (p ∷ q ∷ points) f h =
    let parts = and_parts (is_one_of all p) (list_all (is_one_of all) (q ∷ points)) h in
    let next = and_parts (is_one_of all q) (list_all (is_one_of all) points) parts.1 in
    and_from (has_ends_in all (record { a = p; b = q })) (list_all (has_ends_in all) (edges_to first (q ∷ points)))
    (and_from (is_one_of all p) (is_one_of all q) parts.0 next.0) (on_to first all (q ∷ points) f parts.1)

own_points : (points : List Point) → list_all (is_one_of points) points ≡ true
own_points [] = refl
own_points (p ∷ points) =
    and_from (is_one_of (p ∷ points) p) (list_all (is_one_of (p ∷ points)) points)
    (either_first (same_point p p) (is_one_of points p) (same_itself p))
    (list_all_weaker (is_one_of points) (is_one_of (p ∷ points))
    (λ x h. either_second (same_point x p) (is_one_of points x) h) points (own_points points))

edges_in : (points : List Point) → list_all (has_ends_in points) (edges_of points) ≡ true
edges_in [] = refl
edges_in (p ∷ points) =
    on_to p (p ∷ points) (p ∷ points) (either_first (same_point p p) (is_one_of points p) (same_itself p))
    (own_points (p ∷ points))

turned_ends : (all : List Point) (es : List Segment) → list_all (has_ends_in all) es ≡ true
    → list_all (has_ends_in all) (map turned_edge es) ≡ true
turned_ends all [] h = refl
turned_ends all (e ∷ es) h =
    let parts = and_parts (has_ends_in all e) (list_all (has_ends_in all) es) h in
    let two = and_parts (is_one_of all e.a) (is_one_of all e.b) parts.0 in
    and_from (has_ends_in all (turned_edge e)) (list_all (has_ends_in all) (map turned_edge es))
    (and_from (is_one_of all e.b) (is_one_of all e.a) two.1 two.0) (turned_ends all es parts.1)

either_ends : (b : Bool) (all : List Point) (es : List Segment) → list_all (has_ends_in all) es ≡ true
    → list_all (has_ends_in all) (cond b es (map turned_edge es)) ≡ true
either_ends true all es h = h
either_ends false all es h = turned_ends all es h

pub polygon_ends : (way : Orientation) (points : List Point)
    → list_all (has_ends_in points) (oriented_walls way points) ≡ true
unfolding oriented_walls
polygon_ends way points = either_ends (has_orientation way points) points (edges_of points) (edges_in points)

both_lists : (all : List Point) (xs ys : List Segment) → list_all (has_ends_in all) xs ≡ true
    → list_all (has_ends_in all) ys ≡ true → list_all (has_ends_in all) (xs ++ ys) ≡ true
both_lists all xs ys h k =
    list_all-append (has_ends_in all) xs ys
    ∙ and_from (list_all (has_ends_in all) xs) (list_all (has_ends_in all) ys) h k

obstacles_ends : (os : List Obstacle)
    → list_all (has_ends_in (flat_map (λ o. o.points) os)) (flat_map walls_of_obstacle os) ≡ true
obstacles_ends [] = refl
obstacles_ends (o ∷ os) =
    let rest = flat_map (λ q. q.points) os in
    both_lists (o.points ++ rest) (walls_of_obstacle o) (flat_map walls_of_obstacle os)
    (all_wider o.points rest (walls_of_obstacle o) (polygon_ends Counterclockwise o.points))
    (all_wider_after o.points rest (flat_map walls_of_obstacle os) (obstacles_ends os))

screens_ends : (ss : List Screen)
    → list_all (has_ends_in (flat_map points_of_screen ss)) (map segment_of_screen ss) ≡ true
screens_ends [] = refl
screens_ends (s ∷ ss) =
    let rest = flat_map points_of_screen ss in
    both_lists (points_of_screen s ++ rest) (segment_of_screen s ∷ []) (map segment_of_screen ss)
    (all_wider (points_of_screen s) rest (segment_of_screen s ∷ []) (own s))
    (all_wider_after (points_of_screen s) rest (map segment_of_screen ss) (screens_ends ss))
  where
    own : (s : Screen) → list_all (has_ends_in (points_of_screen s)) (segment_of_screen s ∷ []) ≡ true
    own s =
        and_from (has_ends_in (points_of_screen s) (segment_of_screen s)) true
        (and_from (is_one_of (points_of_screen s) s.from) (is_one_of (points_of_screen s) s.to)
        (either_first (same_point s.from s.from) (is_one_of (s.to ∷ []) s.from) (same_itself s.from))
        (either_second (same_point s.to s.from) (is_one_of (s.to ∷ []) s.to)
        (either_first (same_point s.to s.to) false (same_itself s.to)))) refl

-- the ends of all walls and screens are among the points at which corners stand
pub all_ends : (plan : Plan)
    → list_all (has_ends_in (map here_of (scene_of plan).corners)) (blockers_of_scene (scene_of plan)) ≡ true
all_ends plan =
    let obstacles = flat_map (λ o. o.points) plan.obstacles in
    let screens = flat_map points_of_screen plan.screens in
    let walls = oriented_walls Clockwise plan.outer in
    let others = flat_map walls_of_obstacle plan.obstacles in
    let lines = map segment_of_screen plan.screens in
    subst (λ t. list_all (has_ends_in t) (blockers_of_scene (scene_of plan)) ≡ true) (sym (corners_here plan))
    (both_lists (points_of_plan plan) (walls ++ others) lines
    (both_lists (points_of_plan plan) walls others
    (all_wider plan.outer (obstacles ++ screens) walls (polygon_ends Clockwise plan.outer))
    (all_wider_after plan.outer (obstacles ++ screens) others
    (all_wider obstacles screens others (obstacles_ends plan.obstacles))))
    (all_wider_after plan.outer (obstacles ++ screens) lines
    (all_wider_after obstacles screens lines (screens_ends plan.screens))))

-- ---- as they are seen

corner_of_point : (p x : Point) (corners : List Corner) → is_one_of (map here_of corners) x ≡ true
    → HasCornerAt p corners (vector p x)
corner_of_point p x corners h =
    let s = some_of (same_point x) (map here_of corners) x h in
    let within = subst (λ n. s.place < n) (same_length here_of corners) s.within in
    record {
      number = s.place;
      within = within;
      there = sym (ap (vector p) (points_same x (get_or corners s.place no_corner).here
          (subst (λ t. same_point x t ≡ true) (mapped_at here_of corners s.place no_corner x within) s.holds)));
    }

each_at : {X : Type 0} (test : X → Bool) (xs : List X) (k : ℕ) (d : X) → list_all test xs ≡ true → k < length xs
    → test (get_or xs k d) ≡ true
each_at test [] k d h lt = absurd (omega arith)
each_at test (x ∷ xs) zero d h lt = (and_parts (test x) (list_all test xs) h).0
each_at test (x ∷ xs) (suc k) d h lt = each_at test xs k d (and_parts (test x) (list_all test xs) h).1 (omega arith)

-- at both ends of a wall or screen that is seen stands a corner
pub corners_at_ends : (plan : Plan) (p : Point) (n : ℕ) (s : Seen) → n < length (blockers_of_scene (scene_of plan))
    → seen_at p (blockers_of_scene (scene_of plan)) n ≡ Some s
    → HasCornerAt p (scene_of plan).corners s.from × HasCornerAt p (scene_of plan).corners s.to
corners_at_ends plan p n s within seen =
    let w = get_or (blockers_of_scene (scene_of plan)) n no_segment in
    let all = map here_of (scene_of plan).corners in
    let two = and_parts (is_one_of all w.a) (is_one_of all w.b)
    (each_at (has_ends_in all) (blockers_of_scene (scene_of plan)) n no_segment (all_ends plan) within) in
    by_ends (HasCornerAt p (scene_of plan).corners) p w s
    (corner_of_point p w.a (scene_of plan).corners two.0) (corner_of_point p w.b (scene_of plan).corners two.1)
    (seen_of_number p (blockers_of_scene (scene_of plan)) n s within seen)

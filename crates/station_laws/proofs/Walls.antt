-- The walls of a sound plan and its polygons' corners, by their edges.
use Rattle.std.proofs.Common.{◌≡◌, ℕ, ◌<◌, ℤ, pos, arith, ap, refl, sym, ◌∙◌, subst}
use Rattle.std.proofs.Common.{List, [], ◌∷◌, ◌++◌, length, get_or}
use Rattle.std.specs.Prelude.{Bool, true, false, cond, map, not, ◌&&◌, ◌||◌}
use Rattle.std.specs.Ordering.{int_eq}
use Rattle.std.specs.List.{list_all, flat_map}
use Rattle.std.proofs.lemmas.Int.{ints}
use Rattle.std.proofs.lemmas.Bool.{and_from, and_parts}
use Rattle.std.proofs.lemmas.List.{map-append}
use Rattle.std.proofs.lemmas.List.Folds.{list_all-append}
use Rattle.plane_spec.specs.declared.Point.{Point}
use Rattle.plane_spec.specs.declared.Segment.{Segment}
use Rattle.plane_spec.specs.declared.Corner.{Corner}
use Rattle.plane_spec.specs.declared.Orientation.{Orientation}
use Rattle.plane_spec.specs.declared.Orientation.TheVariants.{Counterclockwise, Clockwise}
use Rattle.plane_spec.specs.Vectors.{orient_of, same_point}
use Rattle.plane_spec.specs.Segments.{cross_properly, is_between, is_on_segment, do_touch}
use Rattle.plane_spec.specs.Polygons.{edges_of, is_on_edge}
use Rattle.plan_spec.specs.Plan.{Obstacle, Plan}
use Rattle.plan_spec.specs.Accepted.{each_two, is_sound}
use Rattle.plan_laws.proofs.Pairs.{each_two_cons}
use Rattle.sight_spec.specs.Scene.{oriented_walls, oriented_corners, walls_of, walls_of_obstacle, corners_of_obstacle}
use Rattle.sight_spec.specs.Scene.{turned_edge, has_orientation, segment_of_screen}
use Rattle.sight_spec.specs.Sight.{is_in_interior}
use Rattle.sight_spec.specs.Isovist.{no_segment}
use Rattle.front_laws.proofs.Tests.{by_lt, clash, mapped_at, tested_not}
use Rattle.apart_laws.specs.Standing.{stands}
use Rattle.apart_laws.proofs.Standing.{MayStand, clear, next, prev, segment_turned, twin_ends}
use Rattle.apart_laws.proofs.Plans.{edges_of_obstacle, plan_stands, two_at, may_of, same_length}
use Rattle.apart_laws.proofs.Through.{IsWithinOne}
use Rattle.station_laws.proofs.Ends.{here_of, start_of, polygon_here, starts_are}
use Rattle.station_laws.proofs.Ground.{never_within_both}

-- ---- edges of polygons

-- the edges of all polygons, as their points go
abbrev pub polygon_edges : Plan → List Segment
polygon_edges plan = edges_of plan.outer ++ flat_map edges_of_obstacle plan.obstacles

-- the corners of all polygons
abbrev pub polygon_corners : Plan → List Corner
polygon_corners plan = oriented_corners Clockwise plan.outer ++ flat_map corners_of_obstacle plan.obstacles

each_two_first : (xs ys : List Segment) → each_two stands (xs ++ ys) ≡ true → each_two stands xs ≡ true
each_two_first [] ys h = refl
each_two_first (e ∷ xs) ys h =
    let parts = and_parts (list_all (stands e) (xs ++ ys)) (each_two stands (xs ++ ys))
    (sym (each_two_cons stands e (xs ++ ys)) ∙ h) in
    let all = and_parts (list_all (stands e) xs) (list_all (stands e) ys)
    (sym (list_all-append (stands e) xs ys) ∙ parts.0) in
    each_two_cons stands e xs
    ∙ and_from (list_all (stands e) xs) (each_two stands xs) all.0 (each_two_first xs ys parts.1)

pub polygons_stand : (plan : Plan) → is_sound plan ≡ true → each_two stands (polygon_edges plan) ≡ true
polygons_stand plan sound =
    each_two_first (polygon_edges plan) (map segment_of_screen plan.screens) (plan_stands plan sound)

-- two edges of polygons, by their numbers
pub may_stand_at : (plan : Plan) (i j : ℕ) → is_sound plan ≡ true → i < j → j < length (polygon_edges plan)
    → MayStand (get_or (polygon_edges plan) i no_segment).a (get_or (polygon_edges plan) i no_segment).b
    (get_or (polygon_edges plan) j no_segment).a (get_or (polygon_edges plan) j no_segment).b
may_stand_at plan i j sound lt within =
    may_of (get_or (polygon_edges plan) i no_segment) (get_or (polygon_edges plan) j no_segment)
    (two_at stands (polygon_edges plan) i j no_segment (polygons_stand plan sound) lt within)

-- ---- walls

turned_and : (o a b : Bool) → (o && (not b && not a)) ≡ (o && (not a && not b))
turned_and o a b = grind arith

interior_turned : (p : Point) (e : Segment) → is_in_interior p (turned_edge e) ≡ is_in_interior p e
interior_turned p e =
    ap (λ t. t && (not (same_point p e.b) && not (same_point p e.a))) (segment_turned p e.a e.b)
    ∙ turned_and (is_on_edge p e) (same_point p e.a) (same_point p e.b)

all_turned : (p : Point) (es : List Segment) → map (is_in_interior p) (map turned_edge es) ≡ map (is_in_interior p) es
all_turned p [] = refl
all_turned p (e ∷ es) =
    ap (λ t. t ∷ map (is_in_interior p) (map turned_edge es)) (interior_turned p e)
    ∙ ap (λ t. is_in_interior p e ∷ t) (all_turned p es)

either_turned : (p : Point) (b : Bool) (es : List Segment)
    → map (is_in_interior p) (cond b es (map turned_edge es)) ≡ map (is_in_interior p) es
either_turned p true es = refl
either_turned p false es = all_turned p es

oriented_interior : (p : Point) (way : Orientation) (points : List Point)
    → map (is_in_interior p) (oriented_walls way points) ≡ map (is_in_interior p) (edges_of points)
unfolding oriented_walls
oriented_interior p way points = either_turned p (has_orientation way points) (edges_of points)

obstacles_interior : (p : Point) (os : List Obstacle)
    → map (is_in_interior p) (flat_map walls_of_obstacle os) ≡ map (is_in_interior p) (flat_map edges_of_obstacle os)
obstacles_interior p [] = refl
obstacles_interior p (o ∷ os) =
    map-append (is_in_interior p) (walls_of_obstacle o) (flat_map walls_of_obstacle os)
    ∙ ap (λ t. t ++ map (is_in_interior p) (flat_map walls_of_obstacle os))
    (oriented_interior p Counterclockwise o.points)
    ∙ ap (λ t. map (is_in_interior p) (edges_of_obstacle o) ++ t) (obstacles_interior p os)
    ∙ sym (map-append (is_in_interior p) (edges_of_obstacle o) (flat_map edges_of_obstacle os))

walls_interior : (p : Point) (plan : Plan)
    → map (is_in_interior p) (walls_of plan) ≡ map (is_in_interior p) (polygon_edges plan)
walls_interior p plan =
    map-append (is_in_interior p) (oriented_walls Clockwise plan.outer) (flat_map walls_of_obstacle plan.obstacles)
    ∙ ap (λ t. t ++ map (is_in_interior p) (flat_map walls_of_obstacle plan.obstacles))
    (oriented_interior p Clockwise plan.outer)
    ∙ ap (λ t. map (is_in_interior p) (edges_of plan.outer) ++ t) (obstacles_interior p plan.obstacles)
    ∙ sym (map-append (is_in_interior p) (edges_of plan.outer) (flat_map edges_of_obstacle plan.obstacles))

pub walls_many : (p : Point) (plan : Plan) → length (walls_of plan) ≡ length (polygon_edges plan)
walls_many p plan =
    sym (same_length (is_in_interior p) (walls_of plan)) ∙ ap length (walls_interior p plan)
    ∙ same_length (is_in_interior p) (polygon_edges plan)

within_of : (p : Point) (e : Segment) → is_in_interior p e ≡ true → IsWithinOne p e.a e.b
within_of p e h =
    let one = and_parts (is_on_edge p e) (not (same_point p e.a) && not (same_point p e.b)) h in
    let two = and_parts (not (same_point p e.a)) (not (same_point p e.b)) one.1 in
    record {
      on = one.0;
      not_first = tested_not (same_point p e.a) two.0;
      not_last = tested_not (same_point p e.b)
          two.1;
    }

-- the wall of the number has p in its interior: so has the edge
pub wall_within : (p : Point) (plan : Plan) (j : ℕ) → j < length (walls_of plan)
    → is_in_interior p (get_or (walls_of plan) j no_segment) ≡ true
    → IsWithinOne p (get_or (polygon_edges plan) j no_segment).a (get_or (polygon_edges plan) j no_segment).b
wall_within p plan j within h =
    within_of p (get_or (polygon_edges plan) j no_segment)
    (sym (mapped_at (is_in_interior p) (polygon_edges plan) j no_segment false
    (subst (λ n. j < n) (walls_many p plan) within))
    ∙ ap (λ t. get_or t j false) (sym (walls_interior p plan))
    ∙ mapped_at (is_in_interior p) (walls_of plan) j no_segment false within ∙ h)

-- no two walls have one point in their interiors
pub one_wall : (plan : Plan) (p : Point) (i j : ℕ) → is_sound plan ≡ true → i < length (walls_of plan)
    → j < length (walls_of plan) → is_in_interior p (get_or (walls_of plan) i no_segment) ≡ true
    → is_in_interior p (get_or (walls_of plan) j no_segment) ≡ true → i ≡ j
one_wall plan p i j sound i_in j_in h k =
    by_lt i j (λ lt. absurd (never i j lt i_in j_in h k))
    (λ le. by_lt j i (λ lt. absurd (never j i lt j_in i_in k h)) (λ ge. omega (arith, le, ge)))
  where
    never : (i j : ℕ) → i < j → i < length (walls_of plan) → j < length (walls_of plan)
        → is_in_interior p (get_or (walls_of plan) i no_segment) ≡ true
        → is_in_interior p (get_or (walls_of plan) j no_segment) ≡ true → ⊥
    never i j lt i_in j_in h k =
        never_within_both (get_or (polygon_edges plan) i no_segment).a (get_or (polygon_edges plan) i no_segment).b
        (get_or (polygon_edges plan) j no_segment).a (get_or (polygon_edges plan) j no_segment).b p
        (may_stand_at plan i j sound lt (subst (λ n. j < n) (walls_many p plan) j_in))
        (wall_within p plan i i_in h) (wall_within p plan j j_in k)

-- ---- corners

start_on : (a b : Point) → is_on_segment a a b ≡ true
unfolding is_on_segment
start_on a b =
    and_from (int_eq (orient_of a b a) (pos 0)) (is_between a.x a.x b.x && is_between a.y a.y b.y)
    (zero (orient_of a b a) (twin_ends a b))
    (and_from (is_between a.x a.x b.x) (is_between a.y a.y b.y) (own a.x b.x) (own a.y b.y))
  where
    zero : (z : ℤ) → z ≡ pos 0 → int_eq z (pos 0) ≡ true
    zero z h = grind (arith, ints)

    own : (x y : ℤ) → is_between x x y ≡ true
    own x y = grind (arith, ints)

touch_at : (c x y z u : Bool) → x ≡ true → (c || ((x || y) || (z || u))) ≡ true
touch_at c x y z u h = grind arith

-- edges that stand beside each other don't begin at one point
pub never_one_start : (u v x y : Point) → MayStand u v x y → u ≡ x → ⊥
unfolding do_touch
never_one_start u v x y (clear h) same =
    clash (do_touch u v x y)
    (touch_at (cross_properly u v x y) (is_on_segment u x y) (is_on_segment v x y) (is_on_segment x u v)
    (is_on_segment y u v) (subst (λ t. is_on_segment u t y ≡ true) same (start_on u y))) h
never_one_start u v x y (next e u_off y_off) same =
    clash (is_on_segment u x y) (subst (λ t. is_on_segment u t y ≡ true) same (start_on u y)) u_off
never_one_start u v x y (prev e x_off v_off) same =
    clash (is_on_segment x u v) (subst (λ t. is_on_segment t u v ≡ true) same (start_on u v)) x_off

obstacles_starts : (os : List Obstacle)
    → map here_of (flat_map corners_of_obstacle os) ≡ map start_of (flat_map edges_of_obstacle os)
obstacles_starts [] = refl
obstacles_starts (o ∷ os) =
    map-append here_of (corners_of_obstacle o) (flat_map corners_of_obstacle os)
    ∙ ap (λ t. t ++ map here_of (flat_map corners_of_obstacle os))
    (polygon_here Counterclockwise o.points ∙ sym (starts_are o.points))
    ∙ ap (λ t. map start_of (edges_of_obstacle o) ++ t) (obstacles_starts os)
    ∙ sym (map-append start_of (edges_of_obstacle o) (flat_map edges_of_obstacle os))

pub polygons_starts : (plan : Plan) → map here_of (polygon_corners plan) ≡ map start_of (polygon_edges plan)
polygons_starts plan =
    map-append here_of (oriented_corners Clockwise plan.outer) (flat_map corners_of_obstacle plan.obstacles)
    ∙ ap (λ t. t ++ map here_of (flat_map corners_of_obstacle plan.obstacles))
    (polygon_here Clockwise plan.outer ∙ sym (starts_are plan.outer))
    ∙ ap (λ t. map start_of (edges_of plan.outer) ++ t) (obstacles_starts plan.obstacles)
    ∙ sym (map-append start_of (edges_of plan.outer) (flat_map edges_of_obstacle plan.obstacles))

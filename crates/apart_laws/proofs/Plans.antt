-- The walls and screens of a sound plan are apart wherever one direction spans both.
--
-- A plan is sound where no edge of one polygon or screen touches one of another, and no two edges of one polygon do
-- but those that follow each other, which share a corner and no more. So each two of all its edges stand beside each
-- other (`plan_stands`): the edges of the outer polygon, of each obstacle, of different obstacles, and the screens.
-- The scene directs some polygons the other way round, but an edge looks the same from its other end (`seen_turned`),
-- so the i-th wall or screen is seen as the i-th edge. And edges that stand beside each other are apart where one
-- direction spans both (`Standing`).
use Rattle.std.proofs.Common.{◌≡◌, ℤ, ℕ, ◌<◌, neg_ℤ, ◌∙◌, [], ◌∷◌, ◌++◌, List, refl, length, sym, arith, pos, ap, zero}
use Rattle.std.proofs.Common.{suc, get_or, subst}
use Rattle.std.proofs.lemmas.Bool.{and_parts, and_from}
use Rattle.std.proofs.lemmas.Int.{ints}
use Rattle.std.proofs.lemmas.List.{map-append}
use Rattle.std.proofs.lemmas.List.Folds.{list_all-map, list_all-append}
use Rattle.std.specs.List.{flat_map, list_all, list_any}
use Rattle.std.specs.Ordering.{int_eq}
use Rattle.std.specs.Prelude.{◌&&◌, ◌||◌, map, true, not, nat_le, Bool, false, cond, Some, None, int_lt}
use Rattle.std.specs.Str.{bytes_eq}
use Rattle.plan_spec.specs.Accepted.{each_two, is_polygon, lies_within, polygons_meet, obstacles_apart}
use Rattle.plan_spec.specs.Accepted.{segment_lies_within, touches_border, is_proper_segment, segment_meets_polygon}
use Rattle.plan_spec.specs.Accepted.{screens_apart, is_sound}
use Rattle.plan_spec.specs.Plan.{Obstacle, Plan}
use Rattle.plan_spec.specs.declared.item.Screen.{Screen}
use Rattle.plane_spec.specs.Polygons.{edges_of, crosses_nowhere, is_simple, has_repeat, borders_touch, is_inside}
use Rattle.plane_spec.specs.Polygons.{edges_touch, folds_back}
use Rattle.plane_spec.specs.Segments.{do_touch, is_on_segment}
use Rattle.plane_spec.specs.Vectors.{is_in_range, vector, cross_of, point, same_point}
use Rattle.plane_spec.specs.declared.Orientation.{Orientation}
use Rattle.plane_spec.specs.declared.Orientation.TheVariants.{Counterclockwise, Clockwise}
use Rattle.plane_spec.specs.declared.Point.{Point}
use Rattle.plane_spec.specs.declared.Segment.{Segment}
use Rattle.sight_spec.specs.Scene.{segment_of_screen, turned_edge, oriented_walls, has_orientation, walls_of_obstacle}
use Rattle.sight_spec.specs.Isovist.{no_segment}
use Rattle.sight_spec.specs.Scene.{scene_of, blockers_of_scene}
use Rattle.int_laws.proofs.Tests.{tested_equal}
use Rattle.list_laws.proofs.Tests.{list_all_weaker}
use Rattle.exact_geom.proofs.Turns.{cross_of_exchanged}
use Rattle.plan_laws.proofs.Pairs.{each_two_cons}
use Rattle.plan_laws.proofs.Parts.{ObstacleParts, ScreenParts, parts_of_sound, parts_of_obstacles, parts_of_screens}
use Rattle.apart_laws.proofs.Beside.{polygon_stands, clear_beside, each_two_each, beside_each, clear_of}
use Rattle.apart_laws.proofs.Beside.{beside_by_columns, clear_stands, beside_join_first, each_two_join}
use Rattle.apart_laws.proofs.Standing.{clear, MayStand, next, prev, ways_of, standing_apart}
use Rattle.apart_laws.specs.Standing.{stands, stand_beside, follows}
use Rattle.front_laws.proofs.Tests.{tested_not, neither_of, mapped_at}
use Rattle.front_laws.specs.Seen.{Seen, seen_of, spans, BothApart}

-- ---- the edges of a plan, whichever way they are directed

abbrev pub edges_of_obstacle : Obstacle → List Segment
edges_of_obstacle o = edges_of o.points

abbrev pub edges_of_plan : Plan → List Segment
edges_of_plan plan = (edges_of plan.outer ++ flat_map edges_of_obstacle plan.obstacles) ++ map segment_of_screen
    plan.screens

pub own_edges : (points : List Point) → is_polygon points ≡ true → each_two stands (edges_of points) ≡ true
unfolding crosses_nowhere
own_edges points h =
    let a = and_parts (list_all is_in_range points) (is_simple points) h in
    let b = and_parts (nat_le 3 (length points)) (not (has_repeat points) && crosses_nowhere points) a.1 in
    let c = and_parts (not (has_repeat points)) (crosses_nowhere points) b.1 in
    polygon_stands (length points) points refl c.1

within_outer : (outer points : List Point) → lies_within outer points ≡ true
    → stand_beside (edges_of outer) (edges_of points) ≡ true
unfolding lies_within
within_outer outer points h =
    clear_beside (edges_of outer) (edges_of points)
    (tested_not _ (and_parts (list_all (λ p. is_inside p outer) points) (not (borders_touch outer points)) h).1)

each_apart : (o q : Obstacle) → obstacles_apart o q ≡ true → stand_beside (edges_of_obstacle o) (edges_of_obstacle q)
    ≡ true
unfolding polygons_meet
each_apart o q h =
    let a = tested_not _ (and_parts (not (polygons_meet o.points q.points)) (not (bytes_eq o.name q.name)) h).0 in
    let b = neither_of (borders_touch o.points q.points)
    (list_any (λ p. is_inside p q.points) o.points || list_any (λ p. is_inside p o.points) q.points) a in
    clear_beside (edges_of o.points) (edges_of q.points) b.0

each_two_weaker : {X : Type 0} (r q : X → X → Bool) → ((x y : X) → r x y ≡ true → q x y ≡ true) → (xs : List X)
    → each_two r xs ≡ true → each_two q xs ≡ true
each_two_weaker r q f [] h = refl
each_two_weaker r q f (x ∷ xs) h =
    let parts = and_parts (list_all (r x) xs) (each_two r xs) (sym (each_two_cons r x xs) ∙ h) in
    each_two_cons q x xs ∙ and_from (list_all (q x) xs) (each_two q xs) (list_all_weaker (r x) (q x) (f x) xs parts.0)
    (each_two_weaker r q f xs parts.1)

pub obstacle_edges : (plan : Plan) → ObstacleParts plan
    → each_two stands (flat_map edges_of_obstacle plan.obstacles) ≡ true
obstacle_edges plan parts =
    each_two_each edges_of_obstacle plan.obstacles
    (list_all_weaker (λ o. is_polygon o.points && lies_within plan.outer o.points)
    (λ o. each_two stands (edges_of_obstacle o))
    (λ o h. own_edges o.points (and_parts (is_polygon o.points) (lies_within plan.outer o.points) h).0)
    plan.obstacles parts.polygons)
    (each_two_weaker obstacles_apart (λ o q. stand_beside (edges_of_obstacle o) (edges_of_obstacle q)) each_apart
    plan.obstacles parts.apart)

pub outer_beside_obstacles : (plan : Plan) → ObstacleParts plan
    → stand_beside (edges_of plan.outer) (flat_map edges_of_obstacle plan.obstacles) ≡ true
outer_beside_obstacles plan parts =
    beside_each edges_of_obstacle (edges_of plan.outer) plan.obstacles
    (list_all_weaker (λ o. is_polygon o.points && lies_within plan.outer o.points)
    (λ o. stand_beside (edges_of plan.outer) (edges_of_obstacle o))
    (λ o h. within_outer plan.outer o.points
    (and_parts (is_polygon o.points) (lies_within plan.outer o.points) h).1) plan.obstacles parts.polygons)

-- ---- the screens

mapped_all : (p : Segment → Bool) (screens : List Screen) → list_all (λ s. p (segment_of_screen s)) screens ≡ true
    → list_all p (map segment_of_screen screens) ≡ true
mapped_all p screens h = list_all-map p segment_of_screen screens ∙ h

screen_within : (outer : List Point) (s : Screen) → segment_lies_within outer s.from s.to ≡ true
    → list_all (λ e. stands e (segment_of_screen s)) (edges_of outer) ≡ true
unfolding segment_lies_within
screen_within outer s h = clear_of (segment_of_screen s) (edges_of outer)
    (tested_not _ (and_parts (is_inside s.from outer && is_inside s.to outer) (not (touches_border s.from s.to outer))
    h).1)

outer_beside_screens : (plan : Plan) → ScreenParts plan
    → stand_beside (edges_of plan.outer) (map segment_of_screen plan.screens) ≡ true
outer_beside_screens plan parts =
    beside_by_columns (edges_of plan.outer) (map segment_of_screen plan.screens)
    (mapped_all (λ f. list_all (λ e. stands e f) (edges_of plan.outer)) plan.screens
    (list_all_weaker (λ s. is_proper_segment s.from s.to && segment_lies_within plan.outer s.from s.to)
    (λ s. list_all (λ e. stands e (segment_of_screen s)) (edges_of plan.outer))
    (λ s h. screen_within plan.outer s (and_parts (is_proper_segment s.from s.to)
    (segment_lies_within plan.outer s.from s.to) h).1) plan.screens parts.lines))

clear_of_obstacle : (s : Screen) (o : Obstacle) → segment_meets_polygon s.from s.to o.points ≡ false
    → list_all (λ e. stands e (segment_of_screen s)) (edges_of_obstacle o) ≡ true
unfolding segment_meets_polygon
clear_of_obstacle s o h = clear_of (segment_of_screen s) (edges_of o.points)
    (neither_of (touches_border s.from s.to o.points) (is_inside s.from o.points || is_inside s.to o.points) h).0

clear_of_obstacles : (s : Screen) (os : List Obstacle) → list_any (λ o. segment_meets_polygon s.from s.to o.points) os
    ≡ false
    → list_all (λ e. stands e (segment_of_screen s)) (flat_map edges_of_obstacle os) ≡ true
clear_of_obstacles s [] h = refl
clear_of_obstacles s (o ∷ os) h =
    let parts = neither_of (segment_meets_polygon s.from s.to o.points)
    (list_any (λ o. segment_meets_polygon s.from s.to o.points) os) h in
    list_all-append (λ e. stands e (segment_of_screen s)) (edges_of_obstacle o) (flat_map edges_of_obstacle os)
    ∙ and_from (list_all (λ e. stands e (segment_of_screen s)) (edges_of_obstacle o))
    (list_all (λ e. stands e (segment_of_screen s)) (flat_map edges_of_obstacle os))
    (clear_of_obstacle s o parts.0) (clear_of_obstacles s os parts.1)

obstacles_beside_screens : (plan : Plan) → ScreenParts plan
    → stand_beside (flat_map edges_of_obstacle plan.obstacles) (map segment_of_screen plan.screens) ≡ true
obstacles_beside_screens plan parts =
    beside_by_columns (flat_map edges_of_obstacle plan.obstacles) (map segment_of_screen plan.screens)
    (mapped_all (λ f. list_all (λ e. stands e f) (flat_map edges_of_obstacle plan.obstacles)) plan.screens
    (list_all_weaker (λ s. not (list_any (λ o. segment_meets_polygon s.from s.to o.points) plan.obstacles))
    (λ s. list_all (λ e. stands e (segment_of_screen s)) (flat_map edges_of_obstacle plan.obstacles))
    (λ s h. clear_of_obstacles s plan.obstacles (tested_not _ h)) plan.screens parts.clear))

mapped_two : (screens : List Screen) → each_two (λ s t. stands (segment_of_screen s) (segment_of_screen t)) screens
    ≡ true → each_two stands (map segment_of_screen screens) ≡ true
mapped_two [] h = refl
mapped_two (s ∷ screens) h =
    let parts = and_parts (list_all (λ t. stands (segment_of_screen s) (segment_of_screen t)) screens)
    (each_two (λ s t. stands (segment_of_screen s) (segment_of_screen t)) screens)
    (sym (each_two_cons (λ s t. stands (segment_of_screen s) (segment_of_screen t)) s screens) ∙ h) in
    each_two_cons stands (segment_of_screen s) (map segment_of_screen screens)
    ∙ and_from (list_all (stands (segment_of_screen s)) (map segment_of_screen screens))
    (each_two stands (map segment_of_screen screens))
    (mapped_all (stands (segment_of_screen s)) screens parts.0) (mapped_two screens parts.1)

own_screens : (plan : Plan) → ScreenParts plan → each_two stands (map segment_of_screen plan.screens) ≡ true
own_screens plan parts =
    mapped_two plan.screens (each_two_weaker screens_apart (λ s t. stands (segment_of_screen s) (segment_of_screen t))
    (λ s t h. clear_stands (segment_of_screen s) (segment_of_screen t)
    (tested_not _ (and_parts (not (do_touch s.from s.to t.from t.to)) (not (bytes_eq s.name t.name)) h).0))
    plan.screens parts.apart)

-- each two edges of an accepted plan may stand beside each other
pub plan_stands : (plan : Plan) → is_sound plan ≡ true → each_two stands (edges_of_plan plan) ≡ true
plan_stands plan sound =
    let parts = parts_of_sound plan sound in
    let obstacles = parts_of_obstacles plan parts.obstacles in
    let screens = parts_of_screens plan parts.screens in
    each_two_join (edges_of plan.outer ++ flat_map edges_of_obstacle plan.obstacles)
    (map segment_of_screen plan.screens)
    (each_two_join (edges_of plan.outer) (flat_map edges_of_obstacle plan.obstacles)
    (own_edges plan.outer parts.outer) (obstacle_edges plan obstacles) (outer_beside_obstacles plan obstacles))
    (own_screens plan screens)
    (beside_join_first (edges_of plan.outer) (flat_map edges_of_obstacle plan.obstacles)
    (map segment_of_screen plan.screens) (outer_beside_screens plan screens)
    (obstacles_beside_screens plan screens))

-- ---- as they are seen

either_order : {X : Type 0} (n m : Bool) (x y : X) → (n ≡ true → m ≡ false) → cond m (Some x) (cond n (Some y) None)
    ≡ cond n (Some y) (cond m (Some x) None)
either_order true true x y h = absurd (no (h refl))
  where
    no : true ≡ false → ⊥
    no e = grind arith
either_order true false x y h = refl
either_order false m x y h = refl

-- an edge looks the same from its other end
seen_turned : (p : Point) (e : Segment) → seen_of p (turned_edge e) ≡ seen_of p e
unfolding seen_of
seen_turned p e =
    let n = cross_of (vector p e.a) (vector p e.b) in
    let m = cross_of (vector p e.b) (vector p e.a) in
    let a : Seen = record { from = vector p e.a; to = vector p e.b } in
    let b : Seen = record { from = vector p e.b; to = vector p e.a } in
    ap (λ t. cond t (Some b) (cond (int_lt m (pos 0)) (Some a) None))
    (up_down n m (cross_of_exchanged (vector p e.a) (vector p e.b)))
    ∙ ap (λ t. cond (int_lt n (pos 0)) (Some b) (cond t (Some a) None))
    (down_up n m (cross_of_exchanged (vector p e.a) (vector p e.b)))
    ∙ either_order (int_lt (pos 0) n) (int_lt n (pos 0)) b a (one_way n)
  where
    up_down : (n m : ℤ) → m ≡ neg_ℤ n → int_lt (pos 0) m ≡ int_lt n (pos 0)
    up_down n m h = grind (arith, ints)

    down_up : (n m : ℤ) → m ≡ neg_ℤ n → int_lt m (pos 0) ≡ int_lt (pos 0) n
    down_up n m h = grind (arith, ints)

    one_way : (n : ℤ) → int_lt (pos 0) n ≡ true → int_lt n (pos 0) ≡ false
    one_way n h = grind (arith, ints)

all_turned : (p : Point) (es : List Segment) → map (seen_of p) (map turned_edge es) ≡ map (seen_of p) es
all_turned p [] = refl
all_turned p (e ∷ es) = ap (λ t. t ∷ map (seen_of p) (map turned_edge es)) (seen_turned p e)
    ∙ ap (λ t. seen_of p e ∷ t) (all_turned p es)

round_by : (p : Point) (b : Bool) (es : List Segment) → map (seen_of p) (cond b es (map turned_edge es))
    ≡ map (seen_of p) es
round_by p true es = refl
round_by p false es = all_turned p es

round_seen : (p : Point) (way : Orientation) (points : List Point) → map (seen_of p) (oriented_walls way points)
    ≡ map (seen_of p) (edges_of points)
unfolding oriented_walls
round_seen p way points = round_by p (has_orientation way points) (edges_of points)

obstacles_seen : (p : Point) (os : List Obstacle) → map (seen_of p) (flat_map walls_of_obstacle os)
    ≡ map (seen_of p) (flat_map edges_of_obstacle os)
obstacles_seen p [] = refl
obstacles_seen p (o ∷ os) =
    map-append (seen_of p) (walls_of_obstacle o) (flat_map walls_of_obstacle os)
    ∙ ap (λ t. t ++ map (seen_of p) (flat_map walls_of_obstacle os)) (round_seen p Counterclockwise o.points)
    ∙ ap (λ t. map (seen_of p) (edges_of_obstacle o) ++ t) (obstacles_seen p os)
    ∙ sym (map-append (seen_of p) (edges_of_obstacle o) (flat_map edges_of_obstacle os))

pub plan_seen : (p : Point) (plan : Plan) → map (seen_of p) (blockers_of_scene (scene_of plan))
    ≡ map (seen_of p) (edges_of_plan plan)
plan_seen p plan =
    let screens = map segment_of_screen plan.screens in
    map-append (seen_of p) (oriented_walls Clockwise plan.outer ++ flat_map walls_of_obstacle plan.obstacles) screens
    ∙ ap (λ t. t ++ map (seen_of p) screens)
    (map-append (seen_of p) (oriented_walls Clockwise plan.outer) (flat_map walls_of_obstacle plan.obstacles)
    ∙ ap (λ t. t ++ map (seen_of p) (flat_map walls_of_obstacle plan.obstacles)) (round_seen p Clockwise plan.outer)
    ∙ ap (λ t. map (seen_of p) (edges_of plan.outer) ++ t) (obstacles_seen p plan.obstacles)
    ∙ sym (map-append (seen_of p) (edges_of plan.outer) (flat_map edges_of_obstacle plan.obstacles)))
    ∙ sym (map-append (seen_of p) (edges_of plan.outer ++ flat_map edges_of_obstacle plan.obstacles) screens)

-- ---- by their numbers

all_at : {X : Type 0} (test : X → Bool) (xs : List X) (k : ℕ) (d : X) → list_all test xs ≡ true → k < length xs
    → test (get_or xs k d) ≡ true
all_at test [] k d h lt = absurd (omega arith)
all_at test (x ∷ xs) zero d h lt = (and_parts (test x) (list_all test xs) h).0
all_at test (x ∷ xs) (suc k) d h lt = all_at test xs k d (and_parts (test x) (list_all test xs) h).1 (omega arith)

pub two_at : {X : Type 0} (r : X → X → Bool) (xs : List X) (i j : ℕ) (d : X) → each_two r xs ≡ true → i < j
    → j < length xs → r (get_or xs i d) (get_or xs j d) ≡ true
two_at r [] i j d h lt within = absurd (omega arith)
two_at r (x ∷ xs) i zero d h lt within = absurd (omega arith)
two_at r (x ∷ xs) zero (suc j) d h lt within = all_at (r x) xs j d
    (and_parts (list_all (r x) xs) (each_two r xs) (sym (each_two_cons r x xs) ∙ h)).0 (omega arith)
two_at r (x ∷ xs) (suc i) (suc j) d h lt within = two_at r xs i j d
    (and_parts (list_all (r x) xs) (each_two r xs) (sym (each_two_cons r x xs) ∙ h)).1 (omega arith) (omega arith)

pub same_length : {X Y : Type 0} (f : X → Y) (xs : List X) → length (map f xs) ≡ length xs
same_length f [] = refl
same_length f (x ∷ xs) = ap suc (same_length f xs)

pub points_same : (p q : Point) → same_point p q ≡ true → p ≡ q
points_same p q h =
    let parts = and_parts (int_eq p.x q.x) (int_eq p.y q.y) h in
    ap (λ t. point t p.y) (tested_equal p.x q.x parts.0) ∙ ap (λ t. point q.x t) (tested_equal p.y q.y parts.1)

stand_cases : {P : Type 0} (t a b : Bool) → (not t || (a || b)) ≡ true → (t ≡ false → P) → (a ≡ true → P)
    → (b ≡ true → P) → P
stand_cases false a b h f g k = f refl
stand_cases true true b h f g k = g refl
stand_cases true false b h f g k = k h

pub may_of : (e f : Segment) → stands e f ≡ true → MayStand e.a e.b f.a f.b
may_of e f h =
    stand_cases (edges_touch e f) (follows e f) (follows f e) h (λ t. clear t)
    (λ t. let parts = and_parts (same_point e.b f.a) (not (folds_back e f)) t in
    let off = neither_of (is_on_segment e.a f.a f.b) (is_on_segment f.b e.a e.b) (tested_not _ parts.1) in
    next (points_same e.b f.a parts.0) off.0 off.1)
    (λ t. let parts = and_parts (same_point f.b e.a) (not (folds_back f e)) t in
    let off = neither_of (is_on_segment f.a e.a e.b) (is_on_segment e.b f.a f.b) (tested_not _ parts.1) in
    prev (points_same f.b e.a parts.0) off.0 off.1)

-- two walls or screens of an accepted plan are apart wherever one direction spans both
pub blockers_apart : (plan : Plan) (p d : Point) (i j : ℕ) (s t : Seen) → is_sound plan ≡ true → i < j
    → j < length (blockers_of_scene (scene_of plan))
    → get_or (map (seen_of p) (blockers_of_scene (scene_of plan))) i None ≡ Some s
    → get_or (map (seen_of p) (blockers_of_scene (scene_of plan))) j None ≡ Some t
    → spans d s ≡ true → spans d t ≡ true → BothApart s t
blockers_apart plan p d i j s t sound lt within s_is t_is s_spans t_spans =
    let edges = edges_of_plan plan in
    let e = get_or edges i no_segment in
    let f = get_or edges j no_segment in
    let many : length (blockers_of_scene (scene_of plan))
    ≡ length edges = sym (same_length (seen_of p) (blockers_of_scene (scene_of plan)))
    ∙ ap length (plan_seen p plan) ∙ same_length (seen_of p) edges in
    let j_in : j < length edges = subst (λ n. j < n) many within in
    let i_in : i < length edges = omega (arith, lt, j_in) in
    let e_is : seen_of p e ≡ Some s = sym (mapped_at (seen_of p) edges i no_segment None i_in)
    ∙ ap (λ xs. get_or xs i None) (sym (plan_seen p plan)) ∙ s_is in
    let f_is : seen_of p f ≡ Some t = sym (mapped_at (seen_of p) edges j no_segment None j_in)
    ∙ ap (λ xs. get_or xs j None) (sym (plan_seen p plan)) ∙ t_is in
    standing_apart p d e.a e.b f.a f.b s t (may_of e f (two_at stands edges i j no_segment (plan_stands plan sound) lt
    j_in)) (ways_of p e s e_is) (ways_of p f t f_is) s_spans t_spans

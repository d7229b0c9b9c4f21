-- The items of a sound plan can be printed.
use Rattle.std.specs.Prelude.{◌≡◌, ℕ, ◌≤◌, nat_le, nat_abs, ℤ, pos, negsuc, true, ◌&&◌, List, [], ◌∷◌, ◌++◌, length, map, Option, Some, None, IfSome}
use Rattle.std.specs.List.{list_all, sum_by}
use Rattle.std.proofs.Common.{All, refl, ◌∙◌, arith}
use Rattle.std.proofs.lemmas.Bool.{and_from}
use Rattle.std.proofs.lemmas.Int.{ints}
use Rattle.std.proofs.lemmas.List.{length-append, length-map}
use Rattle.std.proofs.lemmas.List.Elements.{All-weaker}
use Rattle.std.proofs.lemmas.List.Folds.{list_all-append, list_all-map}
use Rattle.std.proofs.lemmas.List.Sums.{list_all-from_AllPass, sum_by-append, sum_by-cons}
use Rattle.plane_spec.specs.declared.Point.{Point}
use Rattle.plane_spec.specs.Vectors.{IsWithin, InRange}
use Rattle.plan_spec.specs.declared.item.GridSpec.{GridSpec}
use Rattle.plan_spec.specs.declared.item.Screen.{Screen}
use Rattle.plan_spec.specs.declared.item.Route.{Route}
use Rattle.plan_spec.specs.declared.item.Item.{Item}
use Rattle.plan_spec.specs.declared.item.Item.TheVariants.{Grid, Outer}
use Rattle.plan_spec.specs.Plan.{Plan, Obstacle, corners_of_obstacle_count, grid_items, obstacle_item, screen_item, route_item, items_of}
use Rattle.plan_spec.specs.Accepted.{is_sound}
use Rattle.plan_spec.specs.Ranges.{IsPolygonInRange, IsProperSegmentInRange, IsFromTo, IsGridInRange, IsWithinLimits}
use Rattle.plan_laws.proofs.Ranges.{sound_outer, sound_obstacles, sound_screens, sound_routes, sound_limits}
use Rattle.plan_laws.proofs.Grids.{sound_grid}
use Rattle.grammar_spec.specs.PlanText.{is_below, is_short_point, is_short_list, is_number_point, is_printable, points_in, ArePrintable}

-- ---- numbers

coordinate_size : (z : ℤ) → IsWithin (pos 100000) z → nat_abs z ≤ 100000
coordinate_size (pos n) h = omega (arith, ints, h.high)
coordinate_size (negsuc n) h = omega (arith, ints, h.low)

below_by : (size most : ℕ) → size ≤ most → nat_le size most ≡ true
below_by size most h = grind arith

short_coordinate : (z : ℤ) → IsWithin (pos 100000) z → is_below 999999 z ≡ true
short_coordinate z h = below_by (nat_abs z) 999999 (omega (arith, coordinate_size z h))

coordinate : (z : ℤ) → IsWithin (pos 100000) z → is_below 999999999 z ≡ true
coordinate z h = below_by (nat_abs z) 999999999 (omega (arith, coordinate_size z h))

-- a number from 1 on
count_size : (most : ℕ) (z : ℤ) → IsFromTo (pos 1) (pos most) z → nat_abs z ≤ most
count_size most (pos n) h = omega (arith, ints, h.to)
count_size most (negsuc n) h = absurd (omega (arith, ints, h.from))

-- ---- points

short_point : (p : Point) → InRange p → is_short_point p ≡ true
short_point p h = and_from (is_below 999999 p.x) (is_below 999999 p.y) (short_coordinate p.x h.x) (short_coordinate p.y h.y)

number_point : (p : Point) → InRange p → is_number_point p ≡ true
number_point p h = and_from (is_below 999999999 p.x) (is_below 999999999 p.y) (coordinate p.x h.x) (coordinate p.y h.y)

short_list : (points : List Point) → IsPolygonInRange points → is_short_list points ≡ true
short_list points h =
    and_from (nat_le 1 (length points) && nat_le (length points) 1024) (list_all is_short_point points)
    (and_from (nat_le 1 (length points)) (nat_le (length points) 1024) (below_by 1 (length points) (omega (arith, h.at_least))) (below_by (length points) 1024 h.at_most))
    (list_all-from_AllPass is_short_point points (All-weaker InRange (λ p. is_short_point p ≡ true) short_point points h.in_range))

line_points : (from to : Point) → IsProperSegmentInRange from to → (is_number_point from && is_number_point to) ≡ true
line_points from to h = and_from (is_number_point from) (is_number_point to) (number_point from h.from_in) (number_point to h.to_in)

-- ---- items

grid_printable : (g : GridSpec) → IsGridInRange g → is_printable (Grid g) ≡ true
grid_printable g h =
    let step = below_by (nat_abs g.step) 999999999 (count_size 999999999 g.step h.step) in
    let cols = below_by (nat_abs g.cols) 999999999 (omega (arith, count_size 4096 g.cols h.cols)) in
    let rows = below_by (nat_abs g.rows) 999999999 (omega (arith, count_size 4096 g.rows h.rows)) in
    and_from (is_below 999999999 g.step && (is_below 999999999 g.x0 && is_below 999999999 g.y0)) (is_below 999999999 g.cols && is_below 999999999 g.rows)
    (and_from (is_below 999999999 g.step) (is_below 999999999 g.x0 && is_below 999999999 g.y0) step
    (and_from (is_below 999999999 g.x0) (is_below 999999999 g.y0) (coordinate g.x0 h.first_col) (coordinate g.y0 h.first_row)))
    (and_from (is_below 999999999 g.cols) (is_below 999999999 g.rows) cols rows)

grids_printable : (grid : Option GridSpec) → IfSome grid IsGridInRange → list_all is_printable (grid_items grid) ≡ true
grids_printable None h = refl
grids_printable (Some g) h = and_from (is_printable (Grid g)) true (grid_printable g h) refl

-- items that stand for parts which pass a test
parts_printable : {X : Type 0} (P : X → Type 0) (item : X → Item) (parts : List X) → ((x : X) → P x → is_printable (item x) ≡ true) → All P parts →
    list_all is_printable (map item parts) ≡ true
parts_printable P item parts h all =
    list_all-map is_printable item parts ∙ list_all-from_AllPass (λ x. is_printable (item x)) parts (All-weaker P (λ x. is_printable (item x) ≡ true) h parts all)

appended : (front back : List Item) → list_all is_printable front ≡ true → list_all is_printable back ≡ true → list_all is_printable (front ++ back) ≡ true
appended front back h k = list_all-append is_printable front back ∙ and_from (list_all is_printable front) (list_all is_printable back) h k

each_printable : (p : Plan) → is_sound p ≡ true → list_all is_printable (items_of p) ≡ true
unfolding items_of
each_printable p h =
    let obstacles = map obstacle_item p.obstacles in
    let screens = map screen_item p.screens in
    let routes = map route_item p.routes in
    and_from (is_short_list p.outer) (list_all is_printable (grid_items p.grid ++ (obstacles ++ (screens ++ routes)))) (short_list p.outer (sound_outer p h))
    (appended (grid_items p.grid) (obstacles ++ (screens ++ routes)) (grids_printable p.grid (sound_grid p h))
    (appended obstacles (screens ++ routes)
    (parts_printable (λ o. IsPolygonInRange o.points) obstacle_item p.obstacles (λ o. short_list o.points) (sound_obstacles p h))
    (appended screens routes
    (parts_printable (λ s. IsProperSegmentInRange s.from s.to) screen_item p.screens (λ s. line_points s.from s.to) (sound_screens p h))
    (parts_printable (λ r. IsProperSegmentInRange r.from r.to) route_item p.routes (λ r. line_points r.from r.to) (sound_routes p h)))))

-- ---- how many

one_grid : (grid : Option GridSpec) → length (grid_items grid) ≤ 1
one_grid None = omega arith
one_grid (Some g) = omega arith

few_items : (p : Plan) → IsWithinLimits p → length (items_of p) ≤ 2000
unfolding items_of
few_items p h =
    let obstacles = map obstacle_item p.obstacles in
    let screens = map screen_item p.screens in
    let routes = map route_item p.routes in
    omega (
      arith,
      h.obstacles,
      h.screens,
      h.routes,
      one_grid p.grid,
      length-append (grid_items p.grid) (obstacles ++ (screens ++ routes)),
      length-append obstacles (screens ++ routes),
      length-append screens routes,
      length-map p.obstacles obstacle_item,
      length-map p.screens screen_item,
      length-map p.routes route_item,
    )

no_grid_points : (grid : Option GridSpec) → sum_by points_in (grid_items grid) ≡ 0
no_grid_points None = refl
no_grid_points (Some g) = refl

obstacle_points : (obstacles : List Obstacle) → sum_by points_in (map obstacle_item obstacles) ≡ sum_by corners_of_obstacle_count obstacles
obstacle_points [] = refl
obstacle_points (o ∷ obstacles) =
    omega (arith, sum_by-cons points_in (obstacle_item o) (map obstacle_item obstacles), sum_by-cons corners_of_obstacle_count o obstacles, obstacle_points obstacles)

no_screen_points : (screens : List Screen) → sum_by points_in (map screen_item screens) ≡ 0
no_screen_points [] = refl
no_screen_points (s ∷ screens) = omega (arith, sum_by-cons points_in (screen_item s) (map screen_item screens), no_screen_points screens)

no_route_points : (routes : List Route) → sum_by points_in (map route_item routes) ≡ 0
no_route_points [] = refl
no_route_points (r ∷ routes) = omega (arith, sum_by-cons points_in (route_item r) (map route_item routes), no_route_points routes)

few_points : (p : Plan) → IsWithinLimits p → sum_by points_in (items_of p) ≤ 4096
unfolding items_of
few_points p h =
    let obstacles = map obstacle_item p.obstacles in
    let screens = map screen_item p.screens in
    let routes = map route_item p.routes in
    omega (
      arith,
      h.corners,
      sum_by-cons points_in (Outer p.outer) (grid_items p.grid ++ (obstacles ++ (screens ++ routes))),
      sum_by-append points_in (grid_items p.grid) (obstacles ++ (screens ++ routes)),
      sum_by-append points_in obstacles (screens ++ routes),
      sum_by-append points_in screens routes,
      no_grid_points p.grid,
      obstacle_points p.obstacles,
      no_screen_points p.screens,
      no_route_points p.routes,
    )

pub sound_items_printable : (p : Plan) → is_sound p ≡ true → ArePrintable (items_of p)
sound_items_printable p h = record {
  few = few_items p (sound_limits p h);
  short = few_points p (sound_limits p h);
  each = each_printable p h;
}

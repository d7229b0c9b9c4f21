-- A trial plan of 1 to 250 boxes is accepted.
--
-- Its items are those of a plan that is sound part by part: there are at most 16 by 16 cells, so all is in range and
-- within the limits; each box is strictly inside its own cell, and the cells are in the room; and different boxes are
-- apart and have different names.
use Rattle.std.proofs.Common.{◌≡◌, ◌≢◌, ◌≤◌, ◌<◌, ◌+◌, ◌*◌, ◌/◌, ◌%◌, ℕ, zero, suc, pos, Bool, true, ◌&&◌, List, [], ◌∷◌, map, length, refl, sym, ap, ◌∙◌, subst, arith, inl, inr}
use Rattle.std.specs.Prelude.{nat_le, Some}
use Rattle.std.specs.List.{list_all, range_with_len, sum_by}
use Rattle.std.proofs.lemmas.Int.{ints}
use Rattle.std.proofs.lemmas.Bool.{and_from, and_parts}
use Rattle.std.proofs.lemmas.List.{append-nil}
use Rattle.std.proofs.lemmas.List.FromFn.{length-range_with_len, length-map-range_with_len}
use Rattle.std.proofs.lemmas.List.Sums.{sum_by-cons}
use Rattle.std.proofs.Math.Nat.{mod-lt, div-lt_iff_lt-mul}
use Rattle.plane_spec.specs.declared.Point.{Point}
use Rattle.plane_spec.specs.Polygons.{is_simple}
use Rattle.plane_spec.specs.Vectors.{point, is_coordinate, is_in_range}
use Rattle.plan_spec.specs.declared.item.GridSpec.{GridSpec}
use Rattle.plan_spec.specs.declared.item.Item.{Item}
use Rattle.plan_spec.specs.declared.item.Item.TheVariants.{Grid, Outer}
use Rattle.plan_spec.specs.Plan.{Obstacle, Plan, obstacle, obstacle_item, items_of, corners_of_obstacle_count}
use Rattle.plan_spec.specs.Accepted.{each_two, is_polygon, lies_within, is_grid_in_range, is_grid_sound, obstacles_apart, are_screens_sound, are_routes_sound, is_within_limits, is_sound, is_accepted}
use Rattle.list_laws.proofs.Elements.{map_twice}
use Rattle.plan_laws.proofs.Again.{items_accepted}
use Rattle.plan_laws.proofs.Pairs.{each_two_cons}
use Rattle.plan_laws.proofs.Parts.{sound_from_parts, obstacles_from_parts}
use Rattle.report_spec.specs.Trial.{square_at, trial_box, trial_items_by, trial_items, root_above}
use Rattle.rectangle_laws.proofs.Simple.{rectangle_is_simple}
use Rattle.rectangle_laws.proofs.Within.{strictly_within}
use Rattle.trial_laws.proofs.Root.{root_is_enough, root_is_least, some_root}
use Rattle.trial_laws.proofs.Cells.{left_of_box, bottom_of_box, points_of_box, name_of_box, left_in_cell, bottom_in_cell, strictly_between, boxes_apart, names_apart, by_order}

-- ---- the plan

-- box i as an obstacle
abbrev box_obstacle : ℕ → ℕ → Obstacle
box_obstacle c i = obstacle (name_of_box i) (points_of_box c i)

abbrev room : ℕ → List Point
room c = square_at 0 0 (100 * c)

abbrev grid_of : ℕ → GridSpec
grid_of c = record { step = pos 50; x0 = pos 25; y0 = pos 25; cols = pos (2 * c); rows = pos (2 * c) }

abbrev plan_of : ℕ → ℕ → Plan
plan_of n c = record {
  outer = room c;
  grid = Some (grid_of c);
  obstacles = map (box_obstacle c) (range_with_len 0 n);
  screens = [];
  routes = [];
}

items_are : (n c : ℕ) → trial_items_by n c ≡ items_of (plan_of n c)
unfolding items_of
items_are n c =
    let boxes : List Item = map (trial_box c) (range_with_len 0 n) in
    ap (λ items. Outer (room c) ∷ Grid (grid_of c) ∷ items)
    (sym (map_twice obstacle_item (box_obstacle c) (range_with_len 0 n))
    ∙ sym (append-nil (map obstacle_item (map (box_obstacle c) (range_with_len 0 n)))))

-- ---- numbers from a to before a + m

each_number : {X : Type 0} (test : X → Bool) (f : ℕ → X) (a m : ℕ) → ((k : ℕ) → a ≤ k → k < a + m → test (f k) ≡ true)
    → list_all test (map f (range_with_len a m)) ≡ true
each_number test f a zero passes = refl
each_number test f a (suc m) passes =
    and_from (test (f a)) (list_all test (map f (range_with_len (a + 1) m)))
    (passes a (omega arith) (omega arith))
    (each_number test f (a + 1) m (λ k low high. passes k (omega arith) (omega arith)))

each_two_numbers : {X : Type 0} (test : X → X → Bool) (f : ℕ → X) (a m : ℕ)
    → ((i j : ℕ) → i < j → j < a + m → test (f i) (f j) ≡ true)
    → each_two test (map f (range_with_len a m)) ≡ true
each_two_numbers test f a zero passes = refl
each_two_numbers test f a (suc m) passes =
    each_two_cons test (f a) (map f (range_with_len (a + 1) m))
    ∙ and_from (list_all (test (f a)) (map f (range_with_len (a + 1) m)))
    (each_two test (map f (range_with_len (a + 1) m)))
    (each_number (test (f a)) f (a + 1) m (λ k low high. passes a k (omega arith) (omega arith)))
    (each_two_numbers test f (a + 1) m (λ i j less below. passes i j less (omega arith)))

-- ---- squares

natural_coordinate : (n : ℕ) → n ≤ 100000 → is_coordinate (pos n) ≡ true
natural_coordinate n h = grind (arith, ints)

square_in_range : (x y side : ℕ) → x + side ≤ 100000 → y + side ≤ 100000
    → list_all is_in_range (square_at x y side) ≡ true
square_in_range x y side h k =
    rw (
      natural_coordinate x (omega arith),
      natural_coordinate y (omega arith),
      natural_coordinate (x + side) h,
      natural_coordinate (y + side) k,
    ) refl

square_is_simple : (x y side : ℕ) → 0 < side → is_simple (square_at x y side) ≡ true
square_is_simple x y side some =
    rectangle_is_simple (point (pos x) (pos y)) (point (pos (x + side)) (pos (y + side)))
    (λ e. longer x side some e) (λ e. longer y side some e)
  where
    longer : (x side : ℕ) → 0 < side → pos x ≡ pos (x + side) → ⊥
    longer x side some e = omega (arith, ints)

square_is_polygon : (x y side : ℕ) → 0 < side → x + side ≤ 100000 → y + side ≤ 100000
    → is_polygon (square_at x y side) ≡ true
square_is_polygon x y side some h k =
    and_from (list_all is_in_range (square_at x y side)) (is_simple (square_at x y side))
    (square_in_range x y side h k) (square_is_simple x y side some)

-- ---- one box

box_is_within : (c i : ℕ) → i % c < c → i / c < c → lies_within (room c) (points_of_box c i) ≡ true
box_is_within c i column row =
    let l = left_in_cell c i in
    let b = bottom_in_cell c i in
    strictly_within (point (pos 0) (pos 0)) (point (pos (0 + 100 * c)) (pos (0 + 100 * c))) (points_of_box c i)
    (strictly_between (left_of_box c i) (bottom_of_box c i) 40 0 0 (0 + 100 * c) (0 + 100 * c)
    (let low = l.low in omega arith) (let high = l.high in omega arith)
    (let low = b.low in omega arith) (let high = b.high in omega arith))

box_is_polygon : (c i : ℕ) → c ≤ 16 → i % c < c → i / c < c → is_polygon (points_of_box c i) ≡ true
box_is_polygon c i few column row =
    let l = left_in_cell c i in
    let b = bottom_in_cell c i in
    square_is_polygon (left_of_box c i) (bottom_of_box c i) 40 (omega arith)
    (let high = l.high in omega arith) (let high = b.high in omega arith)

box_stands : (c i : ℕ) → 0 < c → c ≤ 16 → i < c * c
    → (is_polygon (points_of_box c i) && lies_within (room c) (points_of_box c i)) ≡ true
box_stands c i some few below =
    let column = mod-lt i some in
    let row = (div-lt_iff_lt-mul some).1 below in
    and_from (is_polygon (points_of_box c i)) (lies_within (room c) (points_of_box c i))
    (box_is_polygon c i few column row) (box_is_within c i column row)

-- ---- two boxes

two_apart : (c i j : ℕ) → i < j → j < 250 → obstacles_apart (box_obstacle c i) (box_obstacle c j) ≡ true
two_apart c i j less few =
    let differ : i ≢ j = λ e. smaller i j less e in
    rw (boxes_apart c i j differ, names_apart i j (omega arith) (omega arith) differ) refl
  where
    smaller : (i j : ℕ) → i < j → i ≡ j → ⊥
    smaller i j less e = omega arith

-- ---- counts

four_each : (c : ℕ) (ks : List ℕ) → sum_by corners_of_obstacle_count (map (box_obstacle c) ks) ≡ 4 * length ks
four_each c [] = refl
four_each c (k ∷ ks) =
    omega (arith, sum_by-cons corners_of_obstacle_count (box_obstacle c k) (map (box_obstacle c) ks), four_each c ks)

limits_hold : (n c : ℕ) → n ≤ 250 → is_within_limits (plan_of n c) ≡ true
unfolding is_within_limits
limits_hold n c few =
    rw (
      length-map-range_with_len (box_obstacle c) 0 n,
      four_each c (range_with_len 0 n),
      length-range_with_len 0 n,
    ) (tests n few)
  where
    tests : (n : ℕ) → n ≤ 250
        → ((nat_le n 256 && nat_le 0 256) && (nat_le 0 256 && nat_le (4 + 4 * n + 2 * 0) 1024)) ≡ true
    tests n few = grind arith

-- ---- the grid

-- what all numbers of a stretch pass, one of them passes
one_of : (test : ℕ → Bool) (a m k : ℕ) → list_all test (range_with_len a m) ≡ true → a ≤ k → k < a + m → test k ≡ true
one_of test a zero k all low high = absurd (omega arith)
one_of test a (suc m) k all low high =
    let parts = and_parts (test a) (list_all test (range_with_len (a + 1) m)) all in
    elim (by_order a k) [
      | inl same ↦ subst (λ n. test n ≡ true) same parts.0
      | inr (inl less) ↦ one_of test (a + 1) m k parts.1 (omega arith) (omega arith)
      | inr (inr more) ↦ absurd (omega arith)
    ]

grids_are_sound : list_all (λ c. is_grid_sound (Some (grid_of c))) (range_with_len 1 16) ≡ true
unfolding is_grid_in_range
grids_are_sound = refl

-- ---- acceptance

plan_is_sound : (n c : ℕ) → n ≤ 250 → 0 < c → c ≤ 16 → n ≤ c * c → is_sound (plan_of n c) ≡ true
unfolding are_screens_sound are_routes_sound
plan_is_sound n c few some small enough =
    sound_from_parts (plan_of n c) (record {
      outer = square_is_polygon 0 0 (100 * c) (omega arith) (omega arith) (omega arith);
      grid = one_of (λ k. is_grid_sound (Some (grid_of k))) 1 16 c grids_are_sound (omega arith) (omega arith);
      obstacles = obstacles_from_parts (plan_of n c) (record {
        polygons =
            each_number (λ o. is_polygon o.points && lies_within (room c) o.points) (box_obstacle c) 0 n
            (λ k low high. box_stands c k some small (omega (arith, high, enough)));
        apart =
            each_two_numbers obstacles_apart (box_obstacle c) 0 n
            (λ i j less below. two_apart c i j less (omega (arith, below, few)));
      });
      screens = refl;
      routes = refl;
      limits = limits_hold n c few;
    })

pub trial_is_accepted : (n : ℕ) → 1 ≤ n → n ≤ 250 → is_accepted (trial_items n) ≡ true
unfolding trial_items
trial_is_accepted n some few =
    let c = root_above n in
    let enough = root_is_enough n in
    ap is_accepted (items_are n c)
    ∙ items_accepted (plan_of n c)
    ∙ plan_is_sound n c few (some_root n c some enough) (root_is_least n 16 (omega (arith, few))) enough

-- The ends of a sound plan's screens: none is on a wall, and the corners there lead into nothing.
use Rattle.std.proofs.Common.{◌≡◌, ℕ, zero, suc, ◌<◌, ℤ, pos, ◌-ℤ◌, ◌*ℤ◌, arith, ap, refl, ◌∙◌}
use Rattle.std.proofs.Common.{List, [], ◌∷◌, length, get_or}
use Rattle.std.specs.Prelude.{Bool, true, false, cond, not, ◌&&◌, ◌||◌, All, int_lt}
use Rattle.std.specs.List.{list_any, list_all, flat_map}
use Rattle.std.proofs.lemmas.Int.{ints}
use Rattle.std.proofs.lemmas.Bool.{and_from, and_parts}
use Rattle.std.proofs.lemmas.List.Folds.{list_all-append}
use Rattle.plane_spec.specs.declared.Point.{Point}
use Rattle.plane_spec.specs.declared.Segment.{Segment}
use Rattle.plane_spec.specs.declared.Corner.{Corner}
use Rattle.plane_spec.specs.Vectors.{vector, turns_left}
use Rattle.plane_spec.specs.Segments.{cross_properly, is_on_segment, do_touch}
use Rattle.plane_spec.specs.Polygons.{edges_of, is_inside}
use Rattle.plane_spec.specs.Cones.{is_in_cone}
use Rattle.plan_spec.specs.declared.item.Screen.{Screen}
use Rattle.plan_spec.specs.Plan.{Obstacle, Plan}
use Rattle.plan_spec.specs.Accepted.{is_sound, is_proper_segment, segment_lies_within, segment_meets_polygon}
use Rattle.plan_spec.specs.Accepted.{touches_border}
use Rattle.plan_laws.proofs.Parts.{parts_of_sound, parts_of_screens}
use Rattle.sight_spec.specs.Scene.{ends_of_screen, screen_corner}
use Rattle.sight_spec.specs.Isovist.{no_segment}
use Rattle.front_laws.proofs.Tests.{tested_not, neither_first, neither_second}
use Rattle.apart_laws.proofs.Plans.{edges_of_obstacle}
use Rattle.station_laws.proofs.Walls.{polygon_edges}

-- ---- no wall touches a screen

-- the edge doesn't touch the screen
abbrev pub is_clear : Screen → Segment → Bool
is_clear s e = not (do_touch s.from s.to e.a e.b)

none_touched : (s : Screen) (es : List Segment) → list_any (λ e. do_touch s.from s.to e.a e.b) es ≡ false
    → list_all (is_clear s) es ≡ true
none_touched s [] h = refl
none_touched s (e ∷ es) h =
    and_from (is_clear s e) (list_all (is_clear s) es)
    (ap not (neither_first (do_touch s.from s.to e.a e.b) (list_any (λ f. do_touch s.from s.to f.a f.b) es) h))
    (none_touched s es
    (neither_second (do_touch s.from s.to e.a e.b) (list_any (λ f. do_touch s.from s.to f.a f.b) es) h))

clear_of_outer : (outer : List Point) (s : Screen) → segment_lies_within outer s.from s.to ≡ true
    → list_all (is_clear s) (edges_of outer) ≡ true
unfolding segment_lies_within
clear_of_outer outer s h =
    none_touched s (edges_of outer) (tested_not (touches_border s.from s.to outer)
    (and_parts (is_inside s.from outer && is_inside s.to outer) (not (touches_border s.from s.to outer)) h).1)

clear_of_one : (s : Screen) (o : Obstacle) → segment_meets_polygon s.from s.to o.points ≡ false
    → list_all (is_clear s) (edges_of_obstacle o) ≡ true
unfolding segment_meets_polygon
clear_of_one s o h =
    none_touched s (edges_of o.points)
    (neither_first (touches_border s.from s.to o.points) (is_inside s.from o.points || is_inside s.to o.points) h)

clear_of_all : (s : Screen) (os : List Obstacle) → list_any (λ o. segment_meets_polygon s.from s.to o.points) os ≡ false
    → list_all (is_clear s) (flat_map edges_of_obstacle os) ≡ true
clear_of_all s [] h = refl
clear_of_all s (o ∷ os) h =
    let one = segment_meets_polygon s.from s.to o.points in
    let rest = list_any (λ q. segment_meets_polygon s.from s.to q.points) os in
    list_all-append (is_clear s) (edges_of_obstacle o) (flat_map edges_of_obstacle os)
    ∙ and_from (list_all (is_clear s) (edges_of_obstacle o)) (list_all (is_clear s) (flat_map edges_of_obstacle os))
    (clear_of_one s o (neither_first one rest h)) (clear_of_all s os (neither_second one rest h))

both_all : {X : Type 0} (f g h : X → Bool) (xs : List X) → ((x : X) → f x ≡ true → g x ≡ true → h x ≡ true)
    → list_all f xs ≡ true → list_all g xs ≡ true → list_all h xs ≡ true
both_all f g h [] step a b = refl
both_all f g h (x ∷ xs) step a b =
    let one = and_parts (f x) (list_all f xs) a in
    let two = and_parts (g x) (list_all g xs) b in
    and_from (h x) (list_all h xs) (step x one.0 two.0) (both_all f g h xs step one.1 two.1)

-- no edge of a polygon touches a screen
pub screens_clear : (plan : Plan) → is_sound plan ≡ true
    → list_all (λ s. list_all (is_clear s) (polygon_edges plan)) plan.screens ≡ true
screens_clear plan sound =
    let parts = parts_of_screens plan (parts_of_sound plan sound).screens in
    both_all (λ s. is_proper_segment s.from s.to && segment_lies_within plan.outer s.from s.to)
    (λ s. not (list_any (λ o. segment_meets_polygon s.from s.to o.points) plan.obstacles))
    (λ s. list_all (is_clear s) (polygon_edges plan)) plan.screens
    (λ s lines clear.
    list_all-append (is_clear s) (edges_of plan.outer) (flat_map edges_of_obstacle plan.obstacles)
    ∙ and_from (list_all (is_clear s) (edges_of plan.outer))
    (list_all (is_clear s) (flat_map edges_of_obstacle plan.obstacles))
    (clear_of_outer plan.outer s (and_parts (is_proper_segment s.from s.to)
    (segment_lies_within plan.outer s.from s.to) lines).1)
    (clear_of_all s plan.obstacles (tested_not _ clear)))
    parts.lines parts.clear

all_at : {X : Type 0} (test : X → Bool) (xs : List X) (k : ℕ) (d : X) → list_all test xs ≡ true → k < length xs
    → test (get_or xs k d) ≡ true
all_at test [] k d h lt = absurd (omega arith)
all_at test (x ∷ xs) zero d h lt = (and_parts (test x) (list_all test xs) h).0
all_at test (x ∷ xs) (suc k) d h lt = all_at test xs k d (and_parts (test x) (list_all test xs) h).1 (omega arith)

ends_free : (c a b z u : Bool) → (c || ((a || b) || (z || u))) ≡ false → (a ≡ false) × (b ≡ false)
ends_free c a b z u h = (one c a b z u h, two c a b z u h)
  where
    one : (c a b z u : Bool) → (c || ((a || b) || (z || u))) ≡ false → a ≡ false
    one c a b z u h = grind arith

    two : (c a b z u : Bool) → (c || ((a || b) || (z || u))) ≡ false → b ≡ false
    two c a b z u h = grind arith

clear_ends : (s : Screen) (e : Segment) → is_clear s e ≡ true
    → (is_on_segment s.from e.a e.b ≡ false) × (is_on_segment s.to e.a e.b ≡ false)
unfolding do_touch
clear_ends s e h =
    ends_free (cross_properly s.from s.to e.a e.b) (is_on_segment s.from e.a e.b) (is_on_segment s.to e.a e.b)
    (is_on_segment e.a s.from s.to) (is_on_segment e.b s.from s.to) (tested_not (do_touch s.from s.to e.a e.b) h)

-- ---- their corners

-- a corner of the screen's ends
pub record IsScreenCorner (plan : Plan) (c : Corner) : Type 0 where
  pub empty : (d : Point) → is_in_cone c d ≡ false
  pub free : (j : ℕ) → j < length (polygon_edges plan)
      → is_on_segment c.here (get_or (polygon_edges plan) j no_segment).a (get_or (polygon_edges plan) j no_segment).b ≡ false

no_left : (v d : Point) → turns_left (vector v v) d ≡ false
no_left v d = none v.x v.y d.x d.y
  where
    none : (x y u w : ℤ) → int_lt (pos 0) ((x -ℤ x) *ℤ w -ℤ (y -ℤ y) *ℤ u) ≡ false
    none x y u w = zero ((x -ℤ x) *ℤ w -ℤ (y -ℤ y) *ℤ u)
        (let a = times (x -ℤ x) w (self x) in let b = times (y -ℤ y) u (self y) in omega (arith, ints, a, b))
      where
        self : (z : ℤ) → z -ℤ z ≡ pos 0
        self z = omega (arith, ints)

        times : (z w : ℤ) → z ≡ pos 0 → z *ℤ w ≡ pos 0
        times z w h = ap (λ t. t *ℤ w) h ∙ by_zero w
          where
            by_zero : (w : ℤ) → pos 0 *ℤ w ≡ pos 0
            by_zero w = omega (arith, ints)

        zero : (z : ℤ) → z ≡ pos 0 → int_lt (pos 0) z ≡ false
        zero z h = grind (arith, ints)

-- the cone of a screen's end is empty
pub empty_cone : (v d : Point) → is_in_cone (screen_corner v) d ≡ false
unfolding is_in_cone
empty_cone v d = by_turn _ (turns_left (vector v v) d) (no_left v d)
  where
    by_turn : (b l : Bool) → l ≡ false → cond b (l && l) (l || l) ≡ false
    by_turn true l h = rw h refl
    by_turn false l h = rw h refl

of_screen : (plan : Plan) (s : Screen) → list_all (is_clear s) (polygon_edges plan) ≡ true
    → All (IsScreenCorner plan) (ends_of_screen s)
of_screen plan s h zero d lt = record {
  empty = λ d. empty_cone s.from d;
  free = λ j within. (clear_ends s (get_or (polygon_edges plan) j no_segment)
      (all_at (is_clear s) (polygon_edges plan) j no_segment h within)).0;
}
of_screen plan s h (suc zero) d lt = record {
  empty = λ d. empty_cone s.to d;
  free = λ j within. (clear_ends s (get_or (polygon_edges plan) j no_segment)
      (all_at (is_clear s) (polygon_edges plan) j no_segment h within)).1;
}
of_screen plan s h (suc (suc k)) d lt = absurd (omega arith)

pub of_screens : (plan : Plan) (ss : List Screen) → list_all (λ s. list_all (is_clear s) (polygon_edges plan)) ss ≡ true
    → All (IsScreenCorner plan) (flat_map ends_of_screen ss)
of_screens plan [] h k d lt = absurd (omega arith)
of_screens plan (s ∷ ss) h zero d lt =
    of_screen plan s (and_parts (list_all (is_clear s) (polygon_edges plan)) _ h).0 zero d (omega arith)
of_screens plan (s ∷ ss) h (suc zero) d lt =
    of_screen plan s (and_parts (list_all (is_clear s) (polygon_edges plan)) _ h).0 (suc zero) d (omega arith)
of_screens plan (s ∷ ss) h (suc (suc k)) d lt =
    of_screens plan ss (and_parts (list_all (is_clear s) (polygon_edges plan)) _ h).1 k d (omega arith)

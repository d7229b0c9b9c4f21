-- The nearest wall or screen, found by the least hit of all.
--
-- A wall is nearest where it is hit and no hit of another comes before its own. The order of hits is a weak one, so
-- some hit comes before h exactly where the least of all hits does. So the first nearest wall is the first that is
-- hit and not after the least hit; and the first of the walls and screens is the first of the walls or, where none
-- is, the first of the screens.
use Rattle.std.proofs.Common.{◌≡◌, ◌≢◌, ℕ, zero, ◌+◌, ◌<◌, Bool, true, false, List, [], ◌∷◌, ◌++◌, length, map, refl, sym, ap, ◌∙◌, arith, add-one, pos, ◌≤ℤ◌, ◌-ℤ◌}
use Rattle.std.specs.Prelude.{⊤, All, not, ◌&&◌, ◌||◌, int_lt, Option, Some, None, if◌then◌else◌}
use Rattle.std.specs.Option.{option_map}
use Rattle.std.specs.List.{list_any, filter_map, cons_option, best_of, position, position_from}
use Rattle.std.proofs.lemmas.Int.{ints}
use Rattle.std.proofs.lemmas.Bool.{and_parts}
use Rattle.std.proofs.lemmas.Iterator.Adapters.{position_from-zero}
use Rattle.std.proofs.lemmas.List.{length-append}
use Rattle.std.proofs.lemmas.List.Elements.{All-head, All-tail, All-nil}
use Rattle.std.proofs.lemmas.List.Quantifiers.{position-Some}
use Rattle.plane_spec.specs.declared.Point.{Point}
use Rattle.plane_spec.specs.declared.Segment.{Segment}
use Rattle.plane_spec.specs.Lists.{min_by}
use Rattle.plane_spec.specs.Vectors.{cross_of, vector}
use Rattle.plane_spec.specs.Fractions.{Fraction, fraction, is_before}
use Rattle.exact_geom.proofs.Lowest.{fraction_is_positive}
use Rattle.exact_geom.proofs.RPointOrder.{before_transitive, before_follows}
use Rattle.sight_spec.specs.Scene.{Scene, blockers_of_scene}
use Rattle.sight_spec.specs.Stops.{is_across, wall_parameter, blocker_hit, is_nearest, near_wall_of}
use Rattle.sight_core.specs.Hits.{is_no_later, is_hit_by, nearest_line_of}
use Rattle.sight_core.proofs.Widths.{across_apart}
use Rattle.sight_core.proofs.StopBounds.{passed, All-filter_map}

-- ---- hits stand over positive denominators

pub record IsOver (f : Fraction) : Type 0 where
  pub den : pos 1 ≤ℤ f.den

line_is_over : (p d : Point) (w : Segment) (t : Fraction) → blocker_hit p d w ≡ Some t → IsOver t
unfolding blocker_hit
line_is_over p d w t e =
    let hit = passed (is_across p d w && int_lt (pos 0) (wall_parameter p d w).num) (wall_parameter p d w) t e in
    let across = (and_parts (is_across p d w) (int_lt (pos 0) (wall_parameter p d w).num) hit.0).0 in
    rw (sym hit.1)
    (record {
      den =
          fraction_is_positive (cross_of (vector p w.a) (vector p w.b)) (cross_of d (vector p w.b) -ℤ cross_of d (vector p w.a))
          (across_apart p d w across);
    })

pub hits_are_over : (p d : Point) (lines : List Segment) → All IsOver (filter_map (blocker_hit p d) lines)
hits_are_over p d lines = All-filter_map (λ w. ⊤) IsOver (blocker_hit p d) (λ w _ t e. line_is_over p d w t e) lines (λ k x h. tt)

-- ---- some hit comes before h exactly where the least does

or_false : (x : Bool) → (x || false) ≡ x
or_false true = refl
or_false false = refl

-- y is the better of the two
better : (x y h : Fraction) → IsOver x → IsOver y → IsOver h → is_before y x ≡ true → (rest : Bool)
    → (is_before x h || (is_before y h || rest)) ≡ (is_before y h || rest)
better x y h x_up y_up h_up before rest = by_test (is_before x h) refl
  where
    by_test : (b : Bool) → is_before x h ≡ b → (b || (is_before y h || rest)) ≡ (is_before y h || rest)
    by_test false e = refl
    by_test true e = sym (ap (λ t. t || rest) (before_transitive y x h y_up.den x_up.den h_up.den before e))

-- x is no worse than y
no_worse : (x y h : Fraction) → IsOver x → IsOver y → IsOver h → is_before y x ≡ false → (rest : Bool)
    → (is_before x h || (is_before y h || rest)) ≡ (is_before x h || rest)
no_worse x y h x_up y_up h_up not_before rest = by_tests (is_before x h) (is_before y h) refl refl
  where
    by_tests : (b c : Bool) → is_before x h ≡ b → is_before y h ≡ c → (b || (c || rest)) ≡ (b || rest)
    by_tests true c d e = refl
    by_tests false false d e = refl
    by_tests false true d e =
        let follows = before_follows y x h y_up.den x_up.den h_up.den not_before e in cc

pub any_before_best : (h x : Fraction) (xs : List Fraction) → IsOver h → IsOver x → All IsOver xs
    → (is_before x h || list_any (λ other. is_before other h) xs) ≡ is_before (best_of is_before x xs) h
any_before_best h x [] h_up x_up up = or_false (is_before x h)
any_before_best h x (y ∷ ys) h_up x_up up =
    by_test (is_before y x) refl
    (any_before_best h y ys h_up (All-head IsOver y ys up) (All-tail IsOver y ys up))
    (any_before_best h x ys h_up x_up (All-tail IsOver y ys up))
  where
    rest : Bool
    rest = list_any (λ other. is_before other h) ys

    by_test : (b : Bool) → is_before y x ≡ b
        → (is_before y h || rest) ≡ is_before (best_of is_before y ys) h
        → (is_before x h || rest) ≡ is_before (best_of is_before x ys) h
        → (is_before x h || (is_before y h || rest)) ≡ is_before (best_of is_before (if b then y else x) ys) h
    by_test true e from_y from_x = better x y h x_up (All-head IsOver y ys up) h_up e rest ∙ from_y
    by_test false e from_y from_x = no_worse x y h x_up (All-head IsOver y ys up) h_up e rest ∙ from_x

any_before : (h m : Fraction) (hits : List Fraction) → IsOver h → All IsOver hits → min_by is_before hits ≡ Some m
    → list_any (λ other. is_before other h) hits ≡ is_before m h
any_before h m [] h_up up e = cc
any_before h m (x ∷ xs) h_up up e =
    let best : best_of is_before x xs ≡ m = cc in
    any_before_best h x xs h_up (All-head IsOver x xs up) (All-tail IsOver x xs up) ∙ ap (λ t. is_before t h) best

-- ---- so a wall is nearest where it isn't hit after the least

pub nearest_is : (p d : Point) (lines : List Segment) (m : Fraction)
    → min_by is_before (filter_map (blocker_hit p d) lines) ≡ Some m
    → (w : Segment) → is_nearest p d lines w ≡ is_hit_by p d m w
nearest_is p d lines m e w = by_hit (blocker_hit p d w) refl
  where
    by_hit : (hit : Option Fraction) → blocker_hit p d w ≡ hit → is_nearest p d lines w ≡ is_hit_by p d m w
    by_hit None none = rw none refl
    by_hit (Some h) h_is =
        rw h_is
        (ap not (any_before h m (filter_map (blocker_hit p d) lines) (line_is_over p d w h h_is) (hits_are_over p d lines) e))

-- ---- the first of two lists

from_front : {X : Type 0} (test : X → Bool) (i : ℕ) (xs ys : List X) (k : ℕ) → position_from test i xs ≡ Some k
    → position_from test i (xs ++ ys) ≡ Some k
from_front test i [] ys k h = cc
from_front test i (x ∷ xs) ys k h = by_test (test x) h (λ e. from_front test (i + 1) xs ys k e)
  where
    by_test : (b : Bool) → (if b then Some i else position_from test (i + 1) xs) ≡ Some k
        → (position_from test (i + 1) xs ≡ Some k → position_from test (i + 1) (xs ++ ys) ≡ Some k)
        → (if b then Some i else position_from test (i + 1) (xs ++ ys)) ≡ Some k
    by_test true e later = e
    by_test false e later = later e

from_back : {X : Type 0} (test : X → Bool) (i : ℕ) (xs ys : List X) → position_from test i xs ≡ None
    → position_from test i (xs ++ ys) ≡ position_from test (length xs + i) ys
from_back test i [] ys h = ap (λ n. position_from test n ys) (omega arith)
from_back test i (x ∷ xs) ys h = by_test (test x) h (λ e. from_back test (i + 1) xs ys e)
  where
    by_test : (b : Bool) → (if b then Some i else position_from test (i + 1) xs) ≡ None
        → (position_from test (i + 1) xs ≡ None → position_from test (i + 1) (xs ++ ys) ≡ position_from test (length xs + (i + 1)) ys)
        → (if b then Some i else position_from test (i + 1) (xs ++ ys)) ≡ position_from test (length (x ∷ xs) + i) ys
    by_test true e later = cc
    by_test false e later = later e ∙ ap (λ n. position_from test n ys) (omega arith)

-- counting from n + i on adds n
counted_on : {X : Type 0} (test : X → Bool) (n i : ℕ) (xs : List X) (k : ℕ) → position_from test i xs ≡ Some k
    → position_from test (n + i) xs ≡ Some (n + k)
counted_on test n i [] k h = cc
counted_on test n i (x ∷ xs) k h = by_test (test x) h (λ e. counted_on test n (i + 1) xs k e)
  where
    by_test : (b : Bool) → (if b then Some i else position_from test (i + 1) xs) ≡ Some k
        → (position_from test (i + 1) xs ≡ Some k → position_from test (n + (i + 1)) xs ≡ Some (n + k))
        → (if b then Some (n + i) else position_from test (n + i + 1) xs) ≡ Some (n + k)
    by_test true e later = let same : i ≡ k = cc in ap (λ t. Some (n + t)) same
    by_test false e later = ap (λ m. position_from test m xs) (omega arith) ∙ later e

none_counted_on : {X : Type 0} (test : X → Bool) (i j : ℕ) (xs : List X) → position_from test i xs ≡ None
    → position_from test j xs ≡ None
none_counted_on test i j [] h = refl
none_counted_on test i j (x ∷ xs) h = by_test (test x) h (λ e. none_counted_on test (i + 1) (j + 1) xs e)
  where
    by_test : (b : Bool) → (if b then Some i else position_from test (i + 1) xs) ≡ None
        → (position_from test (i + 1) xs ≡ None → position_from test (j + 1) xs ≡ None)
        → (if b then Some j else position_from test (j + 1) xs) ≡ None
    by_test true e later = cc
    by_test false e later = later e

-- tests that agree pass first at one place
first_agree : {X : Type 0} (f g : X → Bool) → ((x : X) → f x ≡ g x) → (i : ℕ) (xs : List X)
    → position_from f i xs ≡ position_from g i xs
first_agree f g agree i [] = refl
first_agree f g agree i (x ∷ xs) =
    ap (λ b. if b then Some i else position_from f (i + 1) xs) (agree x)
    ∙ ap (λ t. if g x then Some i else t) (first_agree f g agree (i + 1) xs)

-- ---- the number of the nearest wall or screen

number_by : (scene : Scene) (p d : Point) (m : Fraction) → nearest_line_of scene p d ≡ Some m
    → near_wall_of scene p d ≡ position_from (is_hit_by p d m) 0 (scene.walls ++ scene.screens)
unfolding near_wall_of
number_by scene p d m e =
    position_from-zero (is_nearest p d (blockers_of_scene scene)) (blockers_of_scene scene)
    ∙ first_agree (is_nearest p d (blockers_of_scene scene)) (is_hit_by p d m) (nearest_is p d (blockers_of_scene scene) m e) 0
    (blockers_of_scene scene)

pub number_in_walls : (scene : Scene) (p d : Point) (m : Fraction) (k : ℕ)
    → nearest_line_of scene p d ≡ Some m
    → position (is_hit_by p d m) scene.walls ≡ Some k → near_wall_of scene p d ≡ Some k
number_in_walls scene p d m k e h =
    number_by scene p d m e
    ∙ from_front (is_hit_by p d m) 0 scene.walls scene.screens k (sym (position_from-zero (is_hit_by p d m) scene.walls) ∙ h)

behind_walls : (scene : Scene) (p d : Point) (m : Fraction)
    → nearest_line_of scene p d ≡ Some m
    → position (is_hit_by p d m) scene.walls ≡ None
    → near_wall_of scene p d ≡ position_from (is_hit_by p d m) (length scene.walls + 0) scene.screens
behind_walls scene p d m e h =
    number_by scene p d m e
    ∙ from_back (is_hit_by p d m) 0 scene.walls scene.screens (sym (position_from-zero (is_hit_by p d m) scene.walls) ∙ h)

pub number_in_screens : (scene : Scene) (p d : Point) (m : Fraction) (k : ℕ)
    → nearest_line_of scene p d ≡ Some m
    → position (is_hit_by p d m) scene.walls ≡ None → position (is_hit_by p d m) scene.screens ≡ Some k
    → near_wall_of scene p d ≡ Some (length scene.walls + k)
number_in_screens scene p d m k e h g =
    behind_walls scene p d m e h
    ∙ counted_on (is_hit_by p d m) (length scene.walls) 0 scene.screens k
    (sym (position_from-zero (is_hit_by p d m) scene.screens) ∙ g)

pub number_in_neither : (scene : Scene) (p d : Point) (m : Fraction)
    → nearest_line_of scene p d ≡ Some m
    → position (is_hit_by p d m) scene.walls ≡ None → position (is_hit_by p d m) scene.screens ≡ None
    → near_wall_of scene p d ≡ None
number_in_neither scene p d m e h g =
    behind_walls scene p d m e h
    ∙ none_counted_on (is_hit_by p d m) 0 (length scene.walls + 0) scene.screens
    (sym (position_from-zero (is_hit_by p d m) scene.screens) ∙ g)

no_least : (hits : List Fraction) → min_by is_before hits ≡ None → hits ≡ []
no_least [] h = refl
no_least (x ∷ xs) h = cc

none_hit : (p d : Point) (all xs : List Segment) (i : ℕ) → filter_map (blocker_hit p d) xs ≡ []
    → position_from (is_nearest p d all) i xs ≡ None
none_hit p d all [] i h = refl
none_hit p d all (x ∷ xs) i h = by_hit (blocker_hit p d x) refl h (λ e. none_hit p d all xs (i + 1) e)
  where
    by_hit : (hit : Option Fraction) → blocker_hit p d x ≡ hit → cons_option hit (filter_map (blocker_hit p d) xs) ≡ []
        → (filter_map (blocker_hit p d) xs ≡ [] → position_from (is_nearest p d all) (i + 1) xs ≡ None)
        → position_from (is_nearest p d all) i (x ∷ xs) ≡ None
    by_hit (Some hit) e h later = cc
    by_hit None none h later = rw none (later h)

-- where no wall or screen is hit, none is nearest
pub number_of_none : (scene : Scene) (p d : Point) → nearest_line_of scene p d ≡ None
    → near_wall_of scene p d ≡ None
unfolding near_wall_of
number_of_none scene p d e =
    position_from-zero (is_nearest p d (blockers_of_scene scene)) (blockers_of_scene scene)
    ∙ none_hit p d (blockers_of_scene scene) (blockers_of_scene scene) 0 (no_least _ e)

-- its number is below the number of walls and screens
pub number_is_below : (scene : Scene) (p d : Point) (k : ℕ) → near_wall_of scene p d ≡ Some k
    → k < length scene.walls + length scene.screens
unfolding near_wall_of
number_is_below scene p d k e =
    let nothing : Segment = record { a = p; b = p } in
    let below = (position-Some (is_nearest p d (blockers_of_scene scene)) (blockers_of_scene scene) k nothing e).0 in
    let all = length-append scene.walls scene.screens in
    omega (arith, below, all)

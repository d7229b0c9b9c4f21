-- The stop from a later point of a ray, by the stop from its beginning.
--
-- For each fraction f the hits from q that come before f are, element by element, the hits from p that come before
-- f one step earlier: a wall by its line and its beginning together, a screen where q isn't on its middle, a corner
-- by itself. A list has an element before f exactly where its least one is before f. So the two least hits are
-- before the same fractions, have one value, and are one in lowest terms.
use Rattle.std.proofs.Common.{◌≡◌, Bool, true, false, not, ◌&&◌, ◌||◌, List, [], ◌∷◌, ◌++◌, ℤ, pos, ◌+ℤ◌, ◌-ℤ◌, ◌*ℤ◌, ◌≤ℤ◌, ◌<ℤ◌, refl, sym, ap, ◌∙◌, arith}
use Rattle.std.specs.Prelude.{⊤, All, int_lt, Option, Some, None, if◌then◌else◌}
use Rattle.std.specs.Ordering.{int_eq}
use Rattle.std.specs.Option.{option_map}
use Rattle.std.specs.List.{list_any, filter_map, cons_option, best_of}
use Rattle.std.proofs.lemmas.Int.{ints}
use Rattle.std.proofs.lemmas.Bool.{and_parts, false_from_ne_true}
use Rattle.std.proofs.lemmas.List.Elements.{All-append, All-head, All-tail, filter_map-append}
use Rattle.int_laws.proofs.Ring.{minus_times, sum_times, product_swapped}
use Rattle.int_laws.proofs.Tests.{agree, tested_less, less_tested, tested_equal, equal_tested, smaller_product}
use Rattle.plane_spec.specs.declared.Point.{Point}
use Rattle.plane_spec.specs.declared.Segment.{Segment}
use Rattle.plane_spec.specs.declared.Corner.{Corner}
use Rattle.plane_spec.specs.Lists.{min_by}
use Rattle.plane_spec.specs.Vectors.{IsDirected, vector, cross_of, dot_of, turns_left, same_point, point}
use Rattle.plane_spec.specs.Cones.{is_in_cone}
use Rattle.plane_spec.specs.Fractions.{Fraction, whole, is_before, reduced, same_value}
use Rattle.exact_geom.proofs.Circle.{dot_itself}
use Rattle.exact_geom.proofs.Lowest.{reduced_is_reduced}
use Rattle.exact_geom.proofs.Values.{reduced_keeps_value, same_reduced}
use Rattle.sight_spec.specs.Scene.{Scene, blockers_of_scene}
use Rattle.sight_spec.specs.Sight.{crosses, starts_or_ends_in_wall, corner_blocks, is_in_interior, is_blocked, are_in_sight}
use Rattle.sight_spec.specs.Stops.{runs_into, blocker_hit, corner_hit, start_hit, hits_of, stop_of}
use Rattle.sight_core.specs.Hits.{one_less}
use Rattle.sight_core.proofs.Ways.{any-or, any-append}
use Rattle.sight_core.proofs.StopBounds.{passed, All-filter_map, best_is}
use Rattle.sight_core.proofs.NearWall.{IsOver, hits_are_over, any_before_best}
use Rattle.sight_core.proofs.OnwardWalls.{is_earlier, is_step_earlier, screen_onward, wall_onward}
use Rattle.sight_core.proofs.OnwardCorners.{corner_onward}

-- ---- element by element

or_parts : (x y : Bool) → (x || y) ≡ false → (x ≡ false) × (y ≡ false)
or_parts true y h = cc
or_parts false y h = (refl, h)

-- tests that agree where another fails agree on a list of which none passes it
agree_beside : {X : Type 0} (bad f g : X → Bool) → ((x : X) → bad x ≡ false → f x ≡ g x) → (xs : List X)
    → list_any bad xs ≡ false
    → list_any f xs ≡ list_any g xs
agree_beside bad f g same [] h = refl
agree_beside bad f g same (x ∷ xs) h =
    let parts = or_parts (bad x) (list_any bad xs) h in
    ap (λ t. t || list_any f xs) (same x parts.0) ∙ ap (λ t. g x || t) (agree_beside bad f g same xs parts.1)

-- some hit of a list comes before f
any_earlier : {X : Type 0} (f : Fraction) (hit : X → Option Fraction) (xs : List X)
    → list_any (λ h. is_before h f) (filter_map hit xs) ≡ list_any (λ x. is_earlier f (hit x)) xs
any_earlier f hit [] = refl
any_earlier f hit (x ∷ xs) = by_hit (hit x) ∙ ap (λ t. is_earlier f (hit x) || t) (any_earlier f hit xs)
  where
    by_hit : (o : Option Fraction) → list_any (λ h. is_before h f) (cons_option o (filter_map hit xs))
        ≡ (is_earlier f o || list_any (λ h. is_before h f) (filter_map hit xs))
    by_hit None = refl
    by_hit (Some h) = refl

any_step_earlier : {X : Type 0} (f : Fraction) (hit : X → Option Fraction) (xs : List X)
    → list_any (λ h. is_before (one_less h) f) (filter_map hit xs) ≡ list_any (λ x. is_step_earlier f (hit x)) xs
any_step_earlier f hit [] = refl
any_step_earlier f hit (x ∷ xs) = by_hit (hit x) ∙ ap (λ t. is_step_earlier f (hit x) || t) (any_step_earlier f hit xs)
  where
    by_hit : (o : Option Fraction) → list_any (λ h. is_before (one_less h) f) (cons_option o (filter_map hit xs))
        ≡ (is_step_earlier f o || list_any (λ h. is_before (one_less h) f) (filter_map hit xs))
    by_hit None = refl
    by_hit (Some h) = refl

-- the parts of the hits, with those of walls together
regrouped : (w s c b : Bool) → ((w || s) || (c || b)) ≡ ((w || b) || (s || c))
regrouped true s c b = refl
regrouped false true true b = or_true b
  where
    or_true : (x : Bool) → true ≡ (x || true)
    or_true true = refl
    or_true false = refl
regrouped false true false true = refl
regrouped false true false false = refl
regrouped false false true true = refl
regrouped false false true false = refl
regrouped false false false true = refl
regrouped false false false false = refl

all_parts : (test : Fraction → Bool) (scene : Scene) (x d : Point) → list_any test (hits_of scene x d)
    ≡ ((list_any test (filter_map (blocker_hit x d) scene.walls) || list_any test (filter_map (start_hit x d) scene.walls))
    || (list_any test (filter_map (blocker_hit x d) scene.screens) || list_any test (filter_map (corner_hit x d) scene.corners)))
all_parts test scene x d =
    let lines = filter_map (blocker_hit x d) (blockers_of_scene scene) in
    let corners = filter_map (corner_hit x d) scene.corners in
    let starts = filter_map (start_hit x d) scene.walls in
    any-append test lines (corners ++ starts)
    ∙ ap (λ t. list_any test lines || t) (any-append test corners starts)
    ∙ ap (λ t. list_any test t || (list_any test corners || list_any test starts)) (filter_map-append (blocker_hit x d) scene.walls scene.screens)
    ∙ ap (λ t. t || (list_any test corners || list_any test starts))
    (any-append test (filter_map (blocker_hit x d) scene.walls) (filter_map (blocker_hit x d) scene.screens))
    ∙ regrouped (list_any test (filter_map (blocker_hit x d) scene.walls)) (list_any test (filter_map (blocker_hit x d) scene.screens))
    (list_any test corners) (list_any test starts)

-- what sight says of the parts of a scene
record IsClear (scene : Scene) (p q : Point) : Type 0 where
  different : same_point p q ≡ false
  walls : list_any (λ w. crosses p q w || starts_or_ends_in_wall p q w) scene.walls ≡ false
  screens : list_any (λ w. crosses p q w || is_in_interior q w) scene.screens ≡ false
  corners : list_any (corner_blocks p q) scene.corners ≡ false

of_not : (x : Bool) → not x ≡ true → x ≡ false
of_not true h = cc
of_not false h = refl

is_clear : (scene : Scene) (p q : Point) → are_in_sight scene p q ≡ true
    → list_any (is_in_interior q) scene.screens ≡ false → IsClear scene p q
unfolding are_in_sight is_blocked
is_clear scene p q sees beside =
    let parts = and_parts (not (same_point p q)) (not (is_blocked scene p q)) sees in
    let free = or_parts (list_any (crosses p q) (blockers_of_scene scene))
    (list_any (starts_or_ends_in_wall p q) scene.walls || list_any (corner_blocks p q) scene.corners) (of_not (is_blocked scene p q) parts.1) in
    let rest = or_parts (list_any (starts_or_ends_in_wall p q) scene.walls) (list_any (corner_blocks p q) scene.corners) free.1 in
    let lines = or_parts (list_any (crosses p q) scene.walls) (list_any (crosses p q) scene.screens)
    (sym (any-append (crosses p q) scene.walls scene.screens) ∙ free.0) in
    record {
      different = of_not (same_point p q) parts.0;
      walls = sym (any-or (crosses p q) (starts_or_ends_in_wall p q) scene.walls) ∙ rw (lines.0, rest.0) refl;
      screens = sym (any-or (crosses p q) (is_in_interior q) scene.screens) ∙ rw (lines.1, beside) refl;
      corners = rest.1;
    }

dot_up : (p q : Point) → same_point p q ≡ false → pos 1 ≤ℤ dot_of (vector p q) (vector p q)
dot_up p q other =
    let directed : IsDirected (vector p q) = record {
      somewhere =
          false_from_ne_true (same_point (vector p q) (point (pos 0) (pos 0))) (λ e.
          let parts = and_parts (int_eq (q.x -ℤ p.x) (pos 0)) (int_eq (q.y -ℤ p.y) (pos 0)) e in
          let x = tested_equal (q.x -ℤ p.x) (pos 0) parts.0 in
          let y = tested_equal (q.y -ℤ p.y) (pos 0) parts.1 in
          let same : same_point p q ≡ true =
          rw (equal_tested p.x q.x (omega (arith, ints, x)), equal_tested p.y q.y (omega (arith, ints, y))) refl in
          cc);
    } in
    let up = dot_itself (vector p q) directed in
    omega (arith, ints, up)

-- the hits from q before f are those from p before f, one step earlier
hits_onward : (scene : Scene) (p q : Point) (f : Fraction) → IsClear scene p q
    → list_any (λ h. is_before h f) (hits_of scene q (vector p q)) ≡ list_any (λ h. is_before (one_less h) f) (hits_of scene p (vector p q))
hits_onward scene p q f clear =
    let d = vector p q in
    let walls =
    agree_beside (λ w. crosses p q w || starts_or_ends_in_wall p q w)
    (λ w. is_earlier f (blocker_hit q d w) || is_earlier f (start_hit q d w))
    (λ w. is_step_earlier f (blocker_hit p d w) || is_step_earlier f (start_hit p d w))
    (λ w h. let parts = or_parts (crosses p q w) (starts_or_ends_in_wall p q w) h in wall_onward p q w f parts.0 parts.1)
    scene.walls clear.walls in
    let screens =
    agree_beside (λ w. crosses p q w || is_in_interior q w) (λ w. is_earlier f (blocker_hit q d w)) (λ w. is_step_earlier f (blocker_hit p d w))
    (λ w h. let parts = or_parts (crosses p q w) (is_in_interior q w) h in screen_onward p q w f parts.0 parts.1)
    scene.screens clear.screens in
    let corners =
    agree_beside (corner_blocks p q) (λ c. is_earlier f (corner_hit q d c)) (λ c. is_step_earlier f (corner_hit p d c))
    (λ c h. corner_onward p q c f (dot_up p q clear.different) h) scene.corners clear.corners in
    all_parts (λ h. is_before h f) scene q d
    ∙ rw (
      any_earlier f (blocker_hit q d) scene.walls,
      any_earlier f (start_hit q d) scene.walls,
      any_earlier f (blocker_hit q d) scene.screens,
      any_earlier f (corner_hit q d) scene.corners,
      any-or (λ w. is_earlier f (blocker_hit q d w)) (λ w. is_earlier f (start_hit q d w)) scene.walls,
      walls,
      screens,
      corners,
    )
    (sym (rw (
      all_parts (λ h. is_before (one_less h) f) scene p d,
      any_step_earlier f (blocker_hit p d) scene.walls,
      any_step_earlier f (start_hit p d) scene.walls,
      any_step_earlier f (blocker_hit p d) scene.screens,
      any_step_earlier f (corner_hit p d) scene.corners,
      any-or (λ w. is_step_earlier f (blocker_hit p d w)) (λ w. is_step_earlier f (start_hit p d w)) scene.walls,
    ) refl))

-- ---- the least of two lists

abbrev one_more : Fraction → Fraction
one_more t = record { num = t.num +ℤ t.den; den = t.den }

-- one step earlier before f is before f, one step later
step_moved : (h f : Fraction) → is_before (one_less h) f ≡ is_before h (one_more f)
step_moved h f =
    let one = minus_times h.num h.den f.den in
    let two = sum_times f.num f.den h.den in
    let three = product_swapped h.den f.den in
    agree (is_before (one_less h) f) (is_before h (one_more f))
    (λ e. let less = tested_less ((h.num -ℤ h.den) *ℤ f.den) (f.num *ℤ h.den) e in
    less_tested (h.num *ℤ f.den) ((f.num +ℤ f.den) *ℤ h.den) (omega (arith, ints, one, two, three, less)))
    (λ e. let less = tested_less (h.num *ℤ f.den) ((f.num +ℤ f.den) *ℤ h.den) e in
    less_tested ((h.num -ℤ h.den) *ℤ f.den) (f.num *ℤ h.den) (omega (arith, ints, one, two, three, less)))

any_alike : {X : Type 0} (f g : X → Bool) → ((x : X) → f x ≡ g x) → (xs : List X) → list_any f xs ≡ list_any g xs
any_alike f g same [] = refl
any_alike f g same (x ∷ xs) = ap (λ t. t || list_any f xs) (same x) ∙ ap (λ t. g x || t) (any_alike f g same xs)

never_self : (f : Fraction) → is_before f f ≡ false
never_self f = false_from_ne_true (is_before f f) (λ e. let less = tested_less (f.num *ℤ f.den) (f.num *ℤ f.den) e in absurd (omega (arith, ints, less)))

before_more : (f : Fraction) → pos 1 ≤ℤ f.den → is_before f (one_more f) ≡ true
before_more f up = less_tested (f.num *ℤ f.den) ((f.num +ℤ f.den) *ℤ f.den) (smaller_product f.num (f.num +ℤ f.den) f.den up (omega (arith, ints, up)))

-- neither of one value before the other
one_value : (f g : Fraction) → is_before f g ≡ false → is_before g f ≡ false → same_value f g ≡ true
one_value f g h k = equal_tested (f.num *ℤ g.den) (g.num *ℤ f.den) (omega (arith, ints, h, k))

less_alike : (f : Fraction) → pos 1 ≤ℤ f.den → same_value (one_less f) (one_less (reduced f)) ≡ true
less_alike f up =
    let g = reduced f in
    let same = tested_equal (f.num *ℤ g.den) (g.num *ℤ f.den) (reduced_keeps_value f) in
    let one = minus_times f.num f.den g.den in
    let two = minus_times g.num g.den f.den in
    let three = product_swapped f.den g.den in
    equal_tested ((f.num -ℤ f.den) *ℤ g.den) ((g.num -ℤ g.den) *ℤ f.den) (omega (arith, ints, same, one, two, three))

least_onward : (hp hq : List Fraction) → All IsOver hp → All IsOver hq
    → ((f : Fraction) → list_any (λ h. is_before h f) hq ≡ list_any (λ h. is_before (one_less h) f) hp)
    → option_map reduced (min_by is_before hq) ≡ option_map (λ t. reduced (one_less t)) (option_map reduced (min_by is_before hp))
least_onward [] [] p_up q_up same = refl
least_onward (x ∷ xs) [] p_up q_up same =
    let m = best_of is_before x xs in
    let up = best_is IsOver is_before x xs (All-head IsOver x xs p_up) (All-tail IsOver x xs p_up) in
    let moved = any_alike (λ h. is_before (one_less h) m) (λ h. is_before h (one_more m)) (λ h. step_moved h m) (x ∷ xs) in
    let over : IsOver (one_more m) = record { den = up.den } in
    let best = any_before_best (one_more m) x xs over (All-head IsOver x xs p_up) (All-tail IsOver x xs p_up) in
    let nonzero = before_more m up.den in
    let none = same m in
    cc
least_onward [] (y ∷ ys) p_up q_up same =
    let m = best_of is_before y ys in
    let up = best_is IsOver is_before y ys (All-head IsOver y ys q_up) (All-tail IsOver y ys q_up) in
    let over : IsOver (one_more m) = record { den = up.den } in
    let best = any_before_best (one_more m) y ys over (All-head IsOver y ys q_up) (All-tail IsOver y ys q_up) in
    let nonzero = before_more m up.den in
    let none = same (one_more m) in
    cc
least_onward (x ∷ xs) (y ∷ ys) p_up q_up same =
    let m = best_of is_before x xs in
    let n = best_of is_before y ys in
    let x_up = All-head IsOver x xs p_up in
    let xs_up = All-tail IsOver x xs p_up in
    let y_up = All-head IsOver y ys q_up in
    let ys_up = All-tail IsOver y ys q_up in
    let m_up = best_is IsOver is_before x xs x_up xs_up in
    let n_up = best_is IsOver is_before y ys y_up ys_up in
    let both : (f : Fraction) → IsOver f → is_before n f ≡ is_before (one_less m) f = λ f f_up.
    sym (any_before_best f y ys f_up y_up ys_up) ∙ same f
    ∙ any_alike (λ h. is_before (one_less h) f) (λ h. is_before h (one_more f)) (λ h. step_moved h f) (x ∷ xs)
    ∙ any_before_best (one_more f) x xs (record { den = f_up.den }) x_up xs_up ∙ sym (step_moved m f) in
    let first = both (one_less m) (record { den = m_up.den }) ∙ never_self (one_less m) in
    let second = sym (both n n_up) ∙ never_self n in
    let value = one_value n (one_less m) first second in
    ap Some (same_reduced n (one_less m) n_up.den m_up.den value
    ∙ same_reduced (one_less m) (one_less (reduced m)) m_up.den (reduced_is_reduced m m_up.den).positive (less_alike m m_up.den))

-- ---- all hits stand over positive denominators

corner_is_over : (p d : Point) → pos 1 ≤ℤ dot_of d d → (c : Corner) (t : Fraction) → corner_hit p d c ≡ Some t
    → IsOver t
unfolding corner_hit
corner_is_over p d up c t e =
    let hit = passed (runs_into p d c) (record { num = dot_of d (vector p c.here); den = dot_of d d }) t e in
    rw (sym hit.1) (record { den = up })

start_is_over : (p d : Point) (w : Segment) (t : Fraction) → start_hit p d w ≡ Some t → IsOver t
unfolding start_hit
start_is_over p d w t e =
    let hit = passed (is_in_interior p w && turns_left (vector w.a w.b) d) (whole (pos 0)) t e in
    rw (sym hit.1) (record { den = omega (arith, ints) })

all_over : (scene : Scene) (p d : Point) → pos 1 ≤ℤ dot_of d d → All IsOver (hits_of scene p d)
all_over scene p d up =
    let lines = hits_are_over p d (blockers_of_scene scene) in
    let corners = All-filter_map (λ c. ⊤) IsOver (corner_hit p d) (λ c _ t e. corner_is_over p d up c t e) scene.corners (λ k x h. tt) in
    let starts = All-filter_map (λ w. ⊤) IsOver (start_hit p d) (λ w _ t e. start_is_over p d w t e) scene.walls (λ k x h. tt) in
    All-append IsOver (filter_map (blocker_hit p d) (blockers_of_scene scene)) (filter_map (corner_hit p d) scene.corners ++ filter_map (start_hit p d) scene.walls) lines
    (All-append IsOver (filter_map (corner_hit p d) scene.corners) (filter_map (start_hit p d) scene.walls) corners starts)

-- the stop from q is the stop from p, less one step
pub stop_onward : (scene : Scene) (p q : Point) → are_in_sight scene p q ≡ true
    → list_any (is_in_interior q) scene.screens ≡ false
    → stop_of scene q (vector p q) ≡ option_map (λ t. reduced (one_less t)) (stop_of scene p (vector p q))
unfolding stop_of
stop_onward scene p q sees beside =
    let clear = is_clear scene p q sees beside in
    let up = dot_up p q clear.different in
    least_onward (hits_of scene p (vector p q)) (hits_of scene q (vector p q))
    (all_over scene p (vector p q) up) (all_over scene q (vector p q) up) (λ f. hits_onward scene p q f clear)

-- How far a ray reaches: up to the first, or to the nearest corner ahead, or not at all.
--
-- All parameters at which a ray is stopped are those of walls and screens, of corners, and 0 where it begins on a wall
-- and leads to its left. The least of a list of fractions is known by its value: none of the list is less, and it is
-- not less than some of it (`IsLeastOf`). The least of two lists is the lesser of their least (`least_append`). Of
-- walls and screens the least is the hit of the first; of corners it is the nearest one ahead, or 0 at a corner on
-- which the station stands; of starts it is 0. Two fractions of one value are the same in lowest terms, so it doesn't
-- matter which of them is found.
use Rattle.std.proofs.Common.{◌≡◌, ℤ, ℕ, ◌<◌, ◌+ℤ◌, ◌-ℤ◌, ◌*ℤ◌, ◌<ℤ◌, ◌≤ℤ◌, ◌∙◌, [], ◌∷◌, ◌++◌, ap, refl, List, zero}
use Rattle.std.proofs.Common.{arith, length, get_or, suc, sym, pos, subst}
use Rattle.std.proofs.lemmas.Int.{ints}
use Rattle.std.proofs.lemmas.List.{append-nil}
use Rattle.std.specs.List.{list_any, best_of, filter_map, cons_option}
use Rattle.std.specs.Option.{option_map}
use Rattle.std.specs.Ordering.{int_eq}
use Rattle.std.specs.Prelude.{if◌then◌else◌, ◌&&◌, ◌||◌, Bool, true, false, not, Option, Some, None, int_lt, All, cond}
use Rattle.std.specs.Prelude.{int_le}
use Rattle.plane_spec.specs.Cones.{is_in_cone}
use Rattle.plane_spec.specs.Fractions.{Fraction, is_before, same_value, reduced, whole}
use Rattle.plane_spec.specs.Lists.{min_by}
use Rattle.plane_spec.specs.Vectors.{vector, dot_of, cross_of, same_point}
use Rattle.plane_spec.specs.declared.Corner.{Corner}
use Rattle.plane_spec.specs.declared.Point.{Point}
use Rattle.plane_spec.specs.declared.Segment.{Segment}
use Rattle.sight_spec.specs.Scene.{Scene, blockers_of_scene}
use Rattle.sight_spec.specs.Stops.{blocker_hit, corner_hit, start_hit, hits_of, stop_of, nearer}
use Rattle.int_laws.proofs.Ring.{dot_times, dot_times_across, times_minus}
use Rattle.int_laws.proofs.Signs.{zero_factor, tested_positive, not_negative_product}
use Rattle.int_laws.proofs.Tests.{agree, less_tested, not_less}
use Rattle.exact_geom.proofs.Values.{same_reduced}
use Rattle.apart_laws.proofs.Plans.{points_same}
use Rattle.front_laws.proofs.Hits.{hit_is_where}
use Rattle.front_laws.proofs.InOrder.{den_up}
use Rattle.sight_spec.specs.Isovist.{no_segment}
use Rattle.front_laws.proofs.Lists.{any_is, some_of, any_at}
use Rattle.front_laws.proofs.Tests.{neither_first, neither_second, tested_not, never, either_first, either_second}
use Rattle.front_laws.proofs.Tests.{neither, no_difference, both_of, both_true, by_cases, other_of_either, tested_zero}
use Rattle.front_laws.proofs.Tests.{zero_tested}
use Rattle.front_laws.specs.Seen.{Seen, hit_of, spans, seen_of, hit_where}
use Rattle.sweep_laws.proofs.Least.{IsUp, none_chain, up_best, best_is_least, one_way, never_self}
use Rattle.sweep_laws.proofs.NearWall.{front_hit, any_found, none_before_front, passes_hit, bare_hit}
use Rattle.sweep_laws.specs.First.{seen_first}
use Rattle.sweep_laws.specs.First.{IsFirst}
use Rattle.sweep_laws.specs.Groups.{stands_in, is_own, is_ahead, no_corner, IsNearest}
use Rattle.sweep_laws.specs.Parts.{blocker_stop, IsNearestOrNone, corner_stop, start_stop, leaves_left}
use Rattle.sweep_laws.specs.Parts.{first_stop}

-- ---- tests of lists

any_append : {X : Type 0} (test : X → Bool) (xs ys : List X) → list_any test (xs ++ ys)
    ≡ (list_any test xs || list_any test ys)
any_append test [] ys = refl
any_append test (x ∷ xs) ys = ap (λ t. test x || t) (any_append test xs ys)
    ∙ grouped (test x) (list_any test xs) (list_any test ys)
  where
    grouped : (a b c : Bool) → (a || (b || c)) ≡ ((a || b) || c)
    grouped true b c = refl
    grouped false b c = refl

none_at : {X : Type 0} (test : X → Bool) (xs : List X) (k : ℕ) (d : X) → list_any test xs ≡ false → k < length xs
    → test (get_or xs k d) ≡ false
none_at test [] k d h lt = absurd (omega arith)
none_at test (x ∷ xs) zero d h lt = neither_first (test x) (list_any test xs) h
none_at test (x ∷ xs) (suc k) d h lt = none_at test xs k d (neither_second (test x) (list_any test xs) h) (omega arith)

none_of : {X : Type 0} (test : X → Bool) (xs : List X) (d : X)
    → ((k : ℕ) → k < length xs → test (get_or xs k d) ≡ false) → list_any test xs ≡ false
none_of test xs d f = any_is test xs d false (λ some. sym (f some.place some.within) ∙ some.holds)
    (λ h. absurd (grind arith))

-- ---- the least of a list, by its value

-- h isn't before k
abbrev reaches_back : Fraction → Fraction → Bool
reaches_back h k = not (is_before h k)

pub record IsLeastOf (hits : List Fraction) (h : Fraction) : Type 0 where
  pub up : IsUp h
  pub reached : list_any (reaches_back h) hits ≡ true
  pub none : list_any (λ k. is_before k h) hits ≡ false

abbrev pub HasLeast : List Fraction → Option Fraction → Type 0
HasLeast hits None = hits ≡ []
HasLeast hits (Some h) = IsLeastOf hits h

-- the value of the best is that of the least
best_value : (a : Fraction) (xs : List Fraction) (h : Fraction) → All IsUp (a ∷ xs) → IsLeastOf (a ∷ xs) h
    → same_value (best_of is_before a xs) h ≡ true
best_value a xs h all l =
    let best = best_of is_before a xs in
    let a_up : IsUp a = all 0 a (omega arith) in
    let rest : All IsUp xs = λ k d lt. all (suc k) d (omega arith) in
    let best_up : IsUp best = up_best IsUp a xs a_up rest in
    let first : is_before best h ≡ false = up_best (λ k. is_before k h ≡ false) a xs
    (none_at (λ k. is_before k h) (a ∷ xs) 0 a l.none (omega arith))
    (λ k d lt. none_at (λ t. is_before t h) (a ∷ xs) (suc k) d l.none (omega arith)) in
    let some = some_of (reaches_back h) (a ∷ xs) a l.reached in
    let k = get_or (a ∷ xs) some.place a in
    let second : is_before h best ≡ false = none_chain h k best l.up (all some.place a some.within) best_up
    (tested_not (is_before h k) some.holds) (best_is_least a xs a_up rest some.place a some.within) in
    equal (best.num *ℤ h.den) (h.num *ℤ best.den) first second
  where
    equal : (x y : ℤ) → int_lt x y ≡ false → int_lt y x ≡ false → int_eq x y ≡ true
    equal x y h k = grind (arith, ints)

least_up : (h : Fraction) → IsUp h → pos 1 ≤ℤ h.den
least_up h k = omega (arith, ints, k)

-- the stop is the least, in lowest terms
pub reduced_least : (hits : List Fraction) (o : Option Fraction) → All IsUp hits → HasLeast hits o
    → option_map reduced (min_by is_before hits) ≡ option_map reduced o
reduced_least hits None all h = ap (λ t. option_map reduced (min_by is_before t)) h
reduced_least [] (Some h) all l = absurd (never l.reached)
reduced_least (a ∷ xs) (Some h) all l =
    ap Some (same_reduced (best_of is_before a xs) h
    (least_up (best_of is_before a xs) (up_best IsUp a xs (all 0 a (omega arith))
    (λ k d lt. all (suc k) d (omega arith)))) (least_up h l.up) (best_value a xs h all l))

-- ---- two lists

chosen : (b : Bool) (x y : Fraction) (hits : List Fraction) → (b ≡ true → IsLeastOf hits x)
    → (b ≡ false → IsLeastOf hits y) → HasLeast hits (if b then Some x else Some y)
chosen true x y hits f g = f refl
chosen false x y hits f g = g refl

-- what none of is before h, none is before what isn't after h
none_earlier : (hits : List Fraction) (h l : Fraction) → All IsUp hits → IsUp h → IsUp l
    → list_any (λ k. is_before k h) hits ≡ false → is_before h l ≡ false → list_any (λ k. is_before k l) hits ≡ false
none_earlier hits h l all h_up l_up none before =
    none_of (λ k. is_before k l) hits l (λ k lt. none_chain (get_or hits k l) h l (all k l lt) h_up l_up
    (none_at (λ t. is_before t h) hits k l none lt) before)

pub least_append : (xs ys : List Fraction) (a b : Option Fraction) → All IsUp xs → All IsUp ys → HasLeast xs a
    → HasLeast ys b → HasLeast (xs ++ ys) (nearer a b)
least_append xs ys None b x_up y_up h k = subst (λ t. HasLeast (t ++ ys) b) (sym h) k
least_append xs ys (Some a) None x_up y_up h k =
    subst (λ t. IsLeastOf (xs ++ t) a) (sym k) (subst (λ t. IsLeastOf t a) (sym (append-nil xs)) h)
least_append xs ys (Some a) (Some b) x_up y_up h k =
    chosen (is_before b a) b a (xs ++ ys)
    (λ before. record {
      up = k.up;
      reached = any_append (reaches_back b) xs ys
          ∙ either_second (list_any (reaches_back b) xs) (list_any (reaches_back b) ys) k.reached;
      none = any_append (λ t. is_before t b) xs ys
          ∙ neither (list_any (λ t. is_before t b) xs) (list_any (λ t. is_before t b) ys)
          (none_earlier xs a b x_up h.up k.up h.none (one_way b a before)) k.none;
    })
    (λ after. record {
      up = h.up;
      reached = any_append (reaches_back a) xs ys
          ∙ either_first (list_any (reaches_back a) xs) (list_any (reaches_back a) ys) h.reached;
      none = any_append (λ t. is_before t a) xs ys
          ∙ neither (list_any (λ t. is_before t a) xs) (list_any (λ t. is_before t a) ys) h.none
          (none_earlier ys b a y_up k.up h.up k.none after);
    })

-- ---- lists of what is found

nothing_found : {X : Type 0} (f : X → Option Fraction) (xs : List X) (d : X)
    → ((k : ℕ) → k < length xs → f (get_or xs k d) ≡ None) → filter_map f xs ≡ []
nothing_found f [] d h = refl
nothing_found f (x ∷ xs) d h = ap (λ t. cons_option t (filter_map f xs)) (h 0 (omega arith))
    ∙ nothing_found f xs d (λ k lt. h (suc k) (omega arith))

abbrev UpHit : Option Fraction → Type 0
UpHit None = Unit
UpHit (Some h) = IsUp h

up_cons : (h : Fraction) (hs : List Fraction) → IsUp h → All IsUp hs → All IsUp (h ∷ hs)
up_cons h hs u all zero d lt = u
up_cons h hs u all (suc k) d lt = all k d (omega arith)

up_option : (o : Option Fraction) (hs : List Fraction) → UpHit o → All IsUp hs → All IsUp (cons_option o hs)
up_option None hs u all = all
up_option (Some h) hs u all = up_cons h hs u all

up_found : {X : Type 0} (f : X → Option Fraction) (xs : List X) → ((x : X) → UpHit (f x)) → All IsUp (filter_map f xs)
up_found f [] h = λ k d lt. absurd (omega arith)
up_found f (x ∷ xs) h = up_option (f x) (filter_map f xs) (h x) (up_found f xs h)

up_append : (xs ys : List Fraction) → All IsUp xs → All IsUp ys → All IsUp (xs ++ ys)
up_append [] ys x_up y_up = y_up
up_append (x ∷ xs) ys x_up y_up = up_cons x (xs ++ ys) (x_up 0 x (omega arith))
    (up_append xs ys (λ k d lt. x_up (suc k) d (omega arith)) y_up)

-- ---- the walls and screens

line_up : (p d : Point) (w : Segment) → UpHit (blocker_hit p d w)
line_up p d w = subst UpHit (sym (hit_is_where p d w)) (up_where d (seen_of p w))
  where
    by_span : (d : Point) (s : Seen) (b : Bool) → spans d s ≡ b → UpHit (cond b (Some (hit_of d s)) None)
    by_span d s true h = den_up d s h
    by_span d s false h = tt

    up_where : (d : Point) (o : Option Seen) → UpHit (hit_where d o)
    up_where d None = tt
    up_where d (Some s) = by_span d s (spans d s) refl

pub blocker_least : (scene : Scene) (p d : Point) (first : Option (ℕ × Seen)) → IsFirst scene p d first
    → HasLeast (filter_map (blocker_hit p d) (blockers_of_scene scene)) (blocker_stop d (seen_first first))
blocker_least scene p d None bare =
    nothing_found (blocker_hit p d) (blockers_of_scene scene) no_segment
    (λ k lt. bare_hit p d (blockers_of_scene scene) k bare lt)
blocker_least scene p d (Some first) front =
    let blockers = blockers_of_scene scene in
    record {
      up = den_up d first.1 front.spanned;
      reached = any_found (reaches_back (hit_of d first.1)) (blocker_hit p d) blockers
          ∙ any_at (λ w. passes_hit (reaches_back (hit_of d first.1)) (blocker_hit p d w)) blockers no_segment
          (record {
            place = first.0;
            within = front.within;
            holds = ap
                (passes_hit (reaches_back (hit_of d first.1))) (front_hit p d blockers first.0 first.1 front)
                ∙ ap not (never_self (hit_of d first.1));
          });
      none = none_before_front p d blockers first.0 first.1 front;
    }

-- ---- the corners

abbrev corner_time : Point → Point → Corner → Fraction
corner_time p d c = record { num = dot_of d (vector p c.here); den = dot_of d d }

-- what stands across d nowhere and along it nowhere is at the station
at_station : (d v : Point) → pos 0 <ℤ dot_of d d → cross_of d v ≡ pos 0 → dot_of d v ≡ pos 0 → (v.x ≡ pos 0)
    × (v.y ≡ pos 0)
at_station d v some across along = (zero_factor v.x (dot_of d d) x some, zero_factor v.y (dot_of d d) y some)
  where
    -- v by its products with d
    vanish : (z c dd a b k l : ℤ) → k ≡ pos 0 → l ≡ pos 0 → k *ℤ a ≡ z *ℤ dd +ℤ b *ℤ l → z *ℤ dd ≡ pos 0
    vanish z c dd a b k l h j e =
        let f : k *ℤ a ≡ pos 0 *ℤ a = ap (λ t. t *ℤ a) h in
        let g : b *ℤ l ≡ b *ℤ pos 0 = ap (λ t. b *ℤ t) j in
        omega (arith, ints, e, f, g)

    vanish_across : (z c dd a b k l : ℤ) → k ≡ pos 0 → l ≡ pos 0 → k *ℤ a ≡ z *ℤ dd -ℤ b *ℤ l → z *ℤ dd ≡ pos 0
    vanish_across z c dd a b k l h j e =
        let f : k *ℤ a ≡ pos 0 *ℤ a = ap (λ t. t *ℤ a) h in
        let g : b *ℤ l ≡ b *ℤ pos 0 = ap (λ t. b *ℤ t) j in
        omega (arith, ints, e, f, g)

    dot_back : dot_of v d ≡ pos 0
    dot_back = omega (arith, ints, along)

    cross_back : cross_of v d ≡ pos 0
    cross_back = omega (arith, ints, across)

    y : v.y *ℤ dot_of d d ≡ pos 0
    y = vanish v.y (pos 0) (dot_of d d) d.y d.x (dot_of v d) (cross_of v d) dot_back cross_back
        (dot_times v.x v.y d.x d.y)

    x : v.x *ℤ dot_of d d ≡ pos 0
    x = vanish_across v.x (pos 0) (dot_of d d) d.x d.y (dot_of v d) (cross_of v d) dot_back cross_back
        (dot_times_across v.x v.y d.x d.y)

-- a corner at the station stands across no direction, and at no distance
own_zero : (p d : Point) (c : Corner) → same_point c.here p ≡ true → (cross_of d (vector p c.here) ≡ pos 0)
    × (dot_of d (vector p c.here) ≡ pos 0)
own_zero p d c h = products d.x d.y (c.here.x -ℤ p.x) (c.here.y -ℤ p.y)
    (no_difference c.here.x p.x (ap (λ t. t.x) same)) (no_difference c.here.y p.y (ap (λ t. t.y) same))
  where
    same : c.here ≡ p
    same = points_same c.here p h

    products : (x y u v : ℤ) → u ≡ pos 0 → v ≡ pos 0 → (x *ℤ v -ℤ y *ℤ u ≡ pos 0) × (x *ℤ u +ℤ y *ℤ v ≡ pos 0)
    products x y u v a b =
        let e : x *ℤ v ≡ x *ℤ pos 0 = ap (λ t. x *ℤ t) b in
        let f : y *ℤ u ≡ y *ℤ pos 0 = ap (λ t. y *ℤ t) a in
        let g : x *ℤ u ≡ x *ℤ pos 0 = ap (λ t. x *ℤ t) a in
        let i : y *ℤ v ≡ y *ℤ pos 0 = ap (λ t. y *ℤ t) b in
        (omega (arith, ints, e, f), omega (arith, ints, g, i))

corner_hit_is : (p d : Point) (c : Corner) → pos 0 <ℤ dot_of d d → corner_hit p d c
    ≡ (if is_own p d c || is_ahead p d c then Some (corner_time p d c) else None)
unfolding corner_hit
corner_hit_is p d c some =
    let v = vector p c.here in
    ap (λ t. cond t (Some (corner_time p d c)) None)
    (agree (int_eq (cross_of d v) (pos 0) && (int_le (pos 0) (dot_of d v) && is_in_cone c d))
    (is_own p d c || is_ahead p d c)
    (λ h. let one = both_of (int_eq (cross_of d v) (pos 0)) (int_le (pos 0) (dot_of d v) && is_in_cone c d) h in
    let two = both_of (int_le (pos 0) (dot_of d v)) (is_in_cone c d) one.1 in
    by_cases (int_lt (pos 0) (dot_of d v))
    (λ k. either_second (is_own p d c) (is_ahead p d c)
    (both_true (stands_in p d c.here) (is_in_cone c d)
    (both_true (int_eq (cross_of d v) (pos 0)) (int_lt (pos 0) (dot_of d v)) one.0 k) two.1))
    (λ k. let zero = at_station d v some (tested_zero (cross_of d v) one.0)
    (between_zero (dot_of d v) two.0 k) in
    either_first (is_own p d c) (is_ahead p d c) (both_true (same_point c.here p) (is_in_cone c d)
    (both_true (int_eq c.here.x p.x) (int_eq c.here.y p.y) (equal_is c.here.x p.x zero.0)
    (equal_is c.here.y p.y zero.1)) two.1)))
    (λ h. by_cases (is_own p d c)
    (λ k. let two = both_of (same_point c.here p) (is_in_cone c d) k in
    let zero = own_zero p d c two.0 in
    both_true (int_eq (cross_of d v) (pos 0)) (int_le (pos 0) (dot_of d v) && is_in_cone c d)
    (zero_tested (cross_of d v) zero.0) (both_true (int_le (pos 0) (dot_of d v)) (is_in_cone c d)
    (least_is (dot_of d v) zero.1) two.1))
    (λ k. let two = both_of (stands_in p d c.here) (is_in_cone c d)
    (other_of_either (is_own p d c) (is_ahead p d c) k h) in
    let one = both_of (int_eq (cross_of d v) (pos 0)) (int_lt (pos 0) (dot_of d v)) two.0 in
    both_true (int_eq (cross_of d v) (pos 0)) (int_le (pos 0) (dot_of d v) && is_in_cone c d) one.0
    (both_true (int_le (pos 0) (dot_of d v)) (is_in_cone c d) (weaker (dot_of d v) one.1) two.1))))
  where
    between_zero : (z : ℤ) → int_le (pos 0) z ≡ true → int_lt (pos 0) z ≡ false → z ≡ pos 0
    between_zero z h k = omega (arith, ints, h, k)

    equal_is : (x y : ℤ) → x -ℤ y ≡ pos 0 → int_eq x y ≡ true
    equal_is x y h = grind (arith, ints)

    least_is : (z : ℤ) → z ≡ pos 0 → int_le (pos 0) z ≡ true
    least_is z h = grind (arith, ints)

    weaker : (z : ℤ) → int_lt (pos 0) z ≡ true → int_le (pos 0) z ≡ true
    weaker z h = grind (arith, ints)

zero_before : (k n : ℤ) → pos 0 <ℤ k → is_before (whole (pos 0)) (record { num = k; den = n }) ≡ true
zero_before k n h = less_tested (pos 0 *ℤ n) (k *ℤ pos 1) (omega (arith, ints, h))

ahead_up : (p d : Point) (corners : List Corner) (v : Point) → IsNearest p d (is_ahead p d) corners v
    → pos 0 <ℤ dot_of d v
ahead_up p d corners v n =
    let c = get_or corners n.place no_corner in
    let one = both_of (stands_in p d c.here) (is_in_cone c d) n.passes in
    let two = both_of (int_eq (cross_of d (vector p c.here)) (pos 0)) (int_lt (pos 0) (dot_of d (vector p c.here)))
    one.0 in
    subst (λ t. pos 0 <ℤ dot_of d t) n.at (tested_positive (dot_of d (vector p c.here)) two.1)

-- each hit of a corner is at 0 or later
corner_later : (p d : Point) (c : Corner) → pos 0 <ℤ dot_of d d
    → passes_hit (λ k. is_before k (whole (pos 0))) (corner_hit p d c) ≡ false
unfolding corner_hit
corner_later p d c some = by_test (int_eq (cross_of d (vector p c.here)) (pos 0)
    && (int_le (pos 0) (dot_of d (vector p c.here)) && is_in_cone c d)) refl
  where
    not_early : (k n : ℤ) → int_le (pos 0) k ≡ true → int_lt (k *ℤ pos 1) (pos 0 *ℤ n) ≡ false
    not_early k n h = not_less (k *ℤ pos 1) (pos 0 *ℤ n) (omega (arith, ints, h))

    by_test : (b : Bool) → (int_eq (cross_of d (vector p c.here)) (pos 0)
        && (int_le (pos 0) (dot_of d (vector p c.here)) && is_in_cone c d)) ≡ b
        → passes_hit (λ k. is_before k (whole (pos 0))) (cond b (Some (corner_time p d c)) None) ≡ false
    by_test true h =
        let one = both_of (int_eq (cross_of d (vector p c.here)) (pos 0))
        (int_le (pos 0) (dot_of d (vector p c.here)) && is_in_cone c d) h in
        not_early (dot_of d (vector p c.here)) (dot_of d d)
        (both_of (int_le (pos 0) (dot_of d (vector p c.here))) (is_in_cone c d) one.1).0
    by_test false h = refl

-- with a corner at the station that is led into, the least is 0
own_least : (p d : Point) (corners : List Corner) → pos 0 <ℤ dot_of d d → list_any (is_own p d) corners ≡ true
    → IsLeastOf (filter_map (corner_hit p d) corners) (whole (pos 0))
own_least p d corners some own =
    let s = some_of (is_own p d) corners no_corner own in
    let c = get_or corners s.place no_corner in
    record {
      up = omega (arith, ints);
      reached = any_found (reaches_back (whole (pos 0))) (corner_hit p d) corners
          ∙ any_at (λ c. passes_hit (reaches_back (whole (pos 0))) (corner_hit p d c)) corners no_corner
          (record {
            place = s.place;
            within = s.within;
            holds = ap (passes_hit (reaches_back (whole (pos 0))))
                (corner_hit_is p d c some ∙ ap (λ t. cond t (Some (corner_time p d c)) None)
                (either_first (is_own p d c) (is_ahead p d c) s.holds))
                ∙ ap not (never_after (dot_of d (vector p c.here)) (dot_of d d)
                (own_zero p d c (both_of (same_point c.here p) (is_in_cone c d) s.holds).0).1);
          });
      none = any_found (λ k. is_before k (whole (pos 0))) (corner_hit p d) corners
          ∙ none_of (λ c. passes_hit (λ k. is_before k (whole (pos 0))) (corner_hit p d c)) corners no_corner
          (λ k lt. corner_later p d (get_or corners k no_corner) some);
    }
  where
    never_after : (k n : ℤ) → k ≡ pos 0 → int_lt (pos 0 *ℤ n) (k *ℤ pos 1) ≡ false
    never_after k n h = not_less (pos 0 *ℤ n) (k *ℤ pos 1) (omega (arith, ints, h))

-- without one, it is the nearest one ahead
ahead_least : (p d : Point) (corners : List Corner) (v : Point) → pos 0 <ℤ dot_of d d → list_any (is_own p d) corners
    ≡ false → IsNearest p d (is_ahead p d) corners v
    → IsLeastOf (filter_map (corner_hit p d) corners) (record { num = dot_of d v; den = dot_of d d })
ahead_least p d corners v some own n =
    let h : Fraction = record { num = dot_of d v; den = dot_of d d } in
    let c = get_or corners n.place no_corner in
    record {
      up = some;
      reached = any_found (reaches_back h) (corner_hit p d) corners
          ∙ any_at (λ c. passes_hit (reaches_back h) (corner_hit p d c)) corners no_corner
          (record {
            place = n.place;
            within = n.within;
            holds = ap (passes_hit (reaches_back h))
                (corner_hit_is p d c some ∙ ap (λ t. cond t (Some (corner_time p d c)) None)
                (either_second (is_own p d c) (is_ahead p d c) n.passes))
                ∙ ap (λ t. not (is_before h (record { num = dot_of d t; den = dot_of d d }))) n.at
                ∙ ap not (never_self h);
          });
      none = any_found (λ k. is_before k h) (corner_hit p d) corners
          ∙ none_of (λ c. passes_hit (λ k. is_before k h) (corner_hit p d c)) corners no_corner
          (λ k lt. let e = get_or corners k no_corner in
          ap (passes_hit (λ k. is_before k h))
          (corner_hit_is p d e some ∙ ap (λ t. cond (t || is_ahead p d e) (Some (corner_time p d e)) None)
          (none_at (is_own p d) corners k no_corner own lt))
          ∙ by_ahead (is_ahead p d e) (dot_of d (vector p e.here)) (λ t. n.nearest k lt t));
    }
  where
    by_ahead : (b : Bool) (k : ℤ) → (b ≡ true → dot_of d v ≤ℤ k)
        → passes_hit (λ t. is_before t (record { num = dot_of d v; den = dot_of d d }))
        (cond b (Some (record { num = k; den = dot_of d d })) None) ≡ false
    by_ahead true k f = not_less (k *ℤ dot_of d d) (dot_of d v *ℤ dot_of d d)
        (grows (dot_of d v) k (dot_of d d) some (f refl))
      where
        grows : (x y z : ℤ) → pos 0 <ℤ z → x ≤ℤ y → (x *ℤ z) ≤ℤ (y *ℤ z)
        grows x y z h k =
            let g = not_negative_product z (y -ℤ x) (omega (arith, ints, h)) (omega (arith, ints, k)) in
            let e = times_minus z y x in
            omega (arith, ints, g, e)
    by_ahead false k f = refl

pub corner_least : (p d : Point) (corners : List Corner) (ahead : Option Point) → pos 0 <ℤ dot_of d d
    → IsNearestOrNone p d (is_ahead p d) corners ahead
    → HasLeast (filter_map (corner_hit p d) corners)
    (nearer (corner_stop d ahead) (start_stop (list_any (is_own p d) corners)))
corner_least p d corners ahead some h = by_own (list_any (is_own p d) corners) refl ahead h
  where
    by_own : (b : Bool) → list_any (is_own p d) corners ≡ b → (a : Option Point)
        → IsNearestOrNone p d (is_ahead p d) corners a
        → HasLeast (filter_map (corner_hit p d) corners) (nearer (corner_stop d a) (start_stop b))
    by_own true own None n = own_least p d corners some own
    by_own true own (Some v) n = subst (HasLeast (filter_map (corner_hit p d) corners))
        (sym (at_once (dot_of d v) (dot_of d d) (ahead_up p d corners v n))) (own_least p d corners some own)
      where
        at_once : (k n : ℤ) → pos 0 <ℤ k
            → (if is_before (whole (pos 0)) (record { num = k; den = n }) then Some (whole (pos 0))
            else Some (record { num = k; den = n })) ≡ Some (whole (pos 0))
        at_once k n h = ap (λ t. cond t (Some (whole (pos 0))) (Some (record { num = k; den = n }))) (zero_before k n h)
    by_own false own None n = nothing_found (corner_hit p d) corners no_corner
        (λ k lt. corner_hit_is p d (get_or corners k no_corner) some
        ∙ ap (λ t. cond t (Some (corner_time p d (get_or corners k no_corner))) None)
        (neither (is_own p d (get_or corners k no_corner)) (is_ahead p d (get_or corners k no_corner))
        (none_at (is_own p d) corners k no_corner own lt) (none_at (is_ahead p d) corners k no_corner n lt)))
    by_own false own (Some v) n = ahead_least p d corners v some own n

-- ---- the walls on which the station stands

start_hit_is : (p d : Point) (w : Segment) → start_hit p d w
    ≡ (if leaves_left p d w then Some (whole (pos 0)) else None)
unfolding start_hit
start_hit_is p d w = refl

start_up : (p d : Point) (w : Segment) → UpHit (start_hit p d w)
start_up p d w = subst UpHit (sym (start_hit_is p d w)) (by_test (leaves_left p d w))
  where
    by_test : (b : Bool) → UpHit (cond b (Some (whole (pos 0))) None)
    by_test true = omega (arith, ints)
    by_test false = tt

pub start_least : (p d : Point) (walls : List Segment)
    → HasLeast (filter_map (start_hit p d) walls) (start_stop (list_any (leaves_left p d) walls))
start_least p d walls = by_any (list_any (leaves_left p d) walls) refl
  where
    zero_self : is_before (whole (pos 0)) (whole (pos 0)) ≡ false
    zero_self = never_self (whole (pos 0))

    by_any : (b : Bool) → list_any (leaves_left p d) walls ≡ b
        → HasLeast (filter_map (start_hit p d) walls) (start_stop b)
    by_any false h = nothing_found (start_hit p d) walls no_segment
        (λ k lt. start_hit_is p d (get_or walls k no_segment)
        ∙ ap (λ t. cond t (Some (whole (pos 0))) None) (none_at (leaves_left p d) walls k no_segment h lt))
    by_any true h = record {
      up = omega (arith, ints);
      reached = any_found (reaches_back (whole (pos 0))) (start_hit p d) walls
          ∙ (let s = some_of (leaves_left p d) walls no_segment h in
          any_at (λ w. passes_hit (reaches_back (whole (pos 0))) (start_hit p d w)) walls no_segment
          (record {
            place = s.place;
            within = s.within;
            holds = ap (passes_hit (reaches_back (whole (pos 0))))
                (start_hit_is p d (get_or walls s.place no_segment)
                ∙ ap (λ t. cond t (Some (whole (pos 0))) None) s.holds) ∙ ap not zero_self;
          }));
      none = any_found (λ k. is_before k (whole (pos 0))) (start_hit p d) walls
          ∙ none_of (λ w. passes_hit (λ k. is_before k (whole (pos 0))) (start_hit p d w)) walls no_segment
          (λ k lt. ap (passes_hit (λ k. is_before k (whole (pos 0)))) (start_hit_is p d (get_or walls k no_segment))
          ∙ either (leaves_left p d (get_or walls k no_segment)));
    }
      where
        either : (b : Bool) → passes_hit (λ k. is_before k (whole (pos 0))) (cond b (Some (whole (pos 0))) None) ≡ false
        either true = zero_self
        either false = refl

corner_up : (p d : Point) (c : Corner) → pos 0 <ℤ dot_of d d → UpHit (corner_hit p d c)
corner_up p d c some = subst UpHit (sym (corner_hit_is p d c some)) (by_test (is_own p d c || is_ahead p d c))
  where
    by_test : (b : Bool) → UpHit (cond b (Some (corner_time p d c)) None)
    by_test true = some
    by_test false = tt

-- the answer to a ray
pub stop_is : (scene : Scene) (p d : Point) (first : Option (ℕ × Seen)) (ahead : Option Point) → pos 0 <ℤ dot_of d d
    → IsFirst scene p d first → IsNearestOrNone p d (is_ahead p d) scene.corners ahead
    → stop_of scene p d ≡ option_map reduced (first_stop d (seen_first first) ahead
    (list_any (is_own p d) scene.corners) (list_any (leaves_left p d) scene.walls))
unfolding stop_of
stop_is scene p d first ahead some front near =
    let blockers = filter_map (blocker_hit p d) (blockers_of_scene scene) in
    let corners = filter_map (corner_hit p d) scene.corners in
    let starts = filter_map (start_hit p d) scene.walls in
    let lines_up : All IsUp blockers = up_found (blocker_hit p d) (blockers_of_scene scene) (line_up p d) in
    let corners_up : All IsUp corners = up_found (corner_hit p d) scene.corners (λ c. corner_up p d c some) in
    let starts_up : All IsUp starts = up_found (start_hit p d) scene.walls (start_up p d) in
    reduced_least (hits_of scene p d) (first_stop d (seen_first first) ahead (list_any (is_own p d) scene.corners)
    (list_any (leaves_left p d) scene.walls))
    (up_append blockers (corners ++ starts) lines_up (up_append corners starts corners_up starts_up))
    (least_append blockers (corners ++ starts) (blocker_stop d (seen_first first))
    (nearer (nearer (corner_stop d ahead) (start_stop (list_any (is_own p d) scene.corners)))
    (start_stop (list_any (leaves_left p d) scene.walls))) lines_up
    (up_append corners starts corners_up starts_up) (blocker_least scene p d first front)
    (least_append corners starts (nearer (corner_stop d ahead)
    (start_stop (list_any (is_own p d) scene.corners))) (start_stop (list_any (leaves_left p d) scene.walls))
    corners_up starts_up (corner_least p d scene.corners ahead some near) (start_least p d scene.walls)))

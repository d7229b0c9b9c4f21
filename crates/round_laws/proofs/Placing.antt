-- Where walls that begin at a corner stand in the list, and the distance of the corner.
use Rattle.std.proofs.Common.{◌≤◌, ◌≡◌, ◌≢◌, ℕ, ◌<◌, ℤ, neg_ℤ, ◌-ℤ◌, ◌*ℤ◌, ◌<ℤ◌, ◌∙◌, pos, arith, ap, sym, subst}
use Rattle.std.proofs.Common.{nat_lt}
use Rattle.std.proofs.Common.{refl, List, length, get_or}
use Rattle.std.proofs.lemmas.Int.{ints}
use Rattle.std.specs.Prelude.{if◌then◌else◌, ◌&&◌, ◌||◌, true, int_lt, cond, Bool, false, not, Option, Some, None}
use Rattle.plane_spec.specs.Cones.{is_in_cone}
use Rattle.plane_spec.specs.Vectors.{cross_of, turns_left, IsDirected, vector, dot_of, reversed_direction}
use Rattle.plane_spec.specs.declared.Corner.{Corner}
use Rattle.plane_spec.specs.declared.Point.{Point}
use Rattle.int_laws.proofs.Ring.{product_swapped, times_minus}
use Rattle.int_laws.proofs.Signs.{positive_product, positive_factor, positive_tested, tested_positive}
use Rattle.int_laws.proofs.Tests.{agree}
use Rattle.front_laws.proofs.InOrder.{behind}
use Rattle.front_laws.proofs.Tests.{tested_negative, by_lt, clash_to, either_first, either_second, never_equal}
use Rattle.front_laws.specs.Seen.{Seen, spans, AreTogether, side_of, is_in_front}
use Rattle.round_laws.proofs.Corners.{begins_behind, begins_before}
use Rattle.round_laws.specs.Rounds.{AreApartAhead, IsBlocker}
use Rattle.sweep_laws.specs.Groups.{no_corner}
use Rattle.turn_laws.proofs.After.{spans_on, begins_at}
use Rattle.turn_laws.proofs.Together.{together_after}
use Rattle.turn_laws.specs.Turns.{just_after}
use Rattle.view_laws.proofs.Lengths.{alike_of, scaled}
use Rattle.view_laws.specs.Views.{IsAlong, length_of, is_past_first, IsReached}
use Rattle.turn_laws.specs.Turns.{AreOneWay, same as reached}
use Rattle.plane_spec.specs.Vectors.{IsDirection}
use Rattle.turn_laws.specs.Places.{place_of}
use Rattle.turn_laws.proofs.After.{goes_on, self_way, neither_before}
use Rattle.turn_laws.proofs.Together.{spans_just_after}
use Rattle.turn_laws.proofs.Places.{place_tells}
use Rattle.front_laws.proofs.Tests.{number_not_less}
use Rattle.round_laws.specs.Rounds.{is_spanned_at, from_place, to_place}
use Rattle.round_laws.proofs.Steps.{spans_at}

-- ---- beginning walls

together_from : (s t : Seen) → IsBlocker s → IsBlocker t → spans t.from s ≡ true → AreApartAhead s t
    → AreTogether (just_after t.from) s t
together_from s t s_is t_is spanned apart =
    together_after t.from s t t_is.from_in s_is.from_in s_is.to_in t_is.from_in t_is.to_in (spans_on t.from s spanned)
    (begins_at t t_is.from_some t_is.up) (λ a b. apart (just_after t.from) a b)

turned_pair : (d : Point) (s t : Seen) → AreTogether d s t → AreTogether d t s
turned_pair d s t p = record { first = p.second; second = p.first; apart = p.back; back = p.apart }

-- a wall that the corner is behind is in front of what begins at the corner
pub front_of_new : (s t : Seen) → IsBlocker s → IsBlocker t → spans t.from s ≡ true → AreApartAhead s t
    → int_lt (side_of s t.from) (pos 0) ≡ true → is_in_front s t ≡ true
front_of_new s t s_is t_is spanned apart past =
    behind (just_after t.from) t s (turned_pair (just_after t.from) s t (together_from s t s_is t_is spanned apart))
    (begins_behind s t t_is.up spanned (tested_negative (side_of s t.from) past))

-- what begins at the corner is in front of a wall that the corner is before
pub new_in_front : (s t : Seen) → IsBlocker s → IsBlocker t → spans t.from s ≡ true → AreApartAhead s t
    → pos 0 <ℤ side_of s t.from → is_in_front t s ≡ true
new_in_front s t s_is t_is spanned apart before =
    begins_before s t t_is.up spanned ((together_from s t s_is t_is spanned apart).back) before

-- ---- one direction for all of them

-- just after a direction all is spanned that the direction spans
pub spans_goes_on : (v : Point) (s : Seen) → IsDirection v → IsDirected v → IsBlocker s
    → is_spanned_at (from_place s) (to_place s) (place_of v) ≡ true → spans (just_after v) s ≡ true
spans_goes_on v s v_in v_some b h =
    spans_just_after v s v_in b.from_in b.to_in (spans_on v s (spans_at v s v_in v_some b ∙ h))

-- and all that begins at its place
pub spans_begun : (v : Point) (s : Seen) → IsDirection v → IsDirected v → IsBlocker s → from_place s ≡ place_of v
    → spans (just_after v) s ≡ true
spans_begun v s v_in v_some b same =
    spans_just_after v s v_in b.from_in b.to_in (record {
      begins = reached way.line way.forward;
      ends = goes_on s.from v s.to way (self_way v v_some) b.up;
    })
  where
    equal : (m n : ℕ) → m ≡ n → m ≤ n
    equal m n h = omega (arith, h)

    way : AreOneWay s.from v
    way = neither_before s.from v b.from_some v_some
        (place_tells s.from v b.from_in b.from_some v_in v_some
        ∙ number_not_less (from_place s) (place_of v) (equal (place_of v) (from_place s) (sym same)))
        (place_tells v s.from v_in v_some b.from_in b.from_some
        ∙ number_not_less (place_of v) (from_place s) (equal (from_place s) (place_of v) same))

-- ---- cones

-- left of a direction are the same of one direction
left_along : (a d v : Point) → IsDirected d → IsAlong d v → turns_left a v ≡ turns_left a d
left_along a d v some along =
    let k = alike_of d v some along in
    same_sign k.times k.times_other (cross_of v a) (cross_of d a) (cross_of a v) (cross_of a d) (turn v a) (turn d a)
    k.positive k.positive_other (scaled k.times k.times_other v.x v.y d.x d.y a.x a.y k.x k.y)
  where
    turn : (v a : Point) → cross_of v a ≡ neg_ℤ (cross_of a v)
    turn v a = omega (arith, ints)

    same_sign : (k m x y u w : ℤ) → x ≡ neg_ℤ u → y ≡ neg_ℤ w → pos 0 <ℤ k → pos 0 <ℤ m → k *ℤ x ≡ m *ℤ y
        → int_lt (pos 0) u ≡ int_lt (pos 0) w
    same_sign k m x y u w x_is y_is k_up m_up e =
        agree (int_lt (pos 0) u) (int_lt (pos 0) w)
        (λ h. positive_tested w (positive_factor w m (subst (λ t. pos 0 <ℤ t) (products ∙ product_swapped m w)
        (positive_product k u k_up (tested_positive u h))) m_up))
        (λ h. positive_tested u (positive_factor u k (subst (λ t. pos 0 <ℤ t) (sym products ∙ product_swapped k u)
        (positive_product m w m_up (tested_positive w h))) k_up))
      where
        products : k *ℤ u ≡ m *ℤ w
        products =
            let f : k *ℤ x ≡ k *ℤ neg_ℤ u = ap (λ t. k *ℤ t) x_is in
            let g : m *ℤ y ≡ m *ℤ neg_ℤ w = ap (λ t. m *ℤ t) y_is in
            let i = times_minus k (pos 0) u in
            let j = times_minus m (pos 0) w in
            let p : k *ℤ neg_ℤ u ≡ k *ℤ (pos 0 -ℤ u) = ap (λ t. k *ℤ t) (minus_is u) in
            let q : m *ℤ neg_ℤ w ≡ m *ℤ (pos 0 -ℤ w) = ap (λ t. m *ℤ t) (minus_is w) in
            omega (arith, ints, e, f, g, i, j, p, q)
          where
            minus_is : (z : ℤ) → neg_ℤ z ≡ pos 0 -ℤ z
            minus_is z = omega (arith, ints)

-- a corner is led into by all of one direction or by none
pub cone_along : (c : Corner) (d v : Point) → IsDirected d → IsAlong d v → is_in_cone c v ≡ is_in_cone c d
unfolding is_in_cone
cone_along c d v some along =
    ap
    (λ t. cond
    (int_lt (pos 0)
    ((c.here.x -ℤ c.prev.x) *ℤ (c.next.y -ℤ c.prev.y) -ℤ (c.here.y -ℤ c.prev.y) *ℤ (c.next.x -ℤ c.prev.x)))
    (t && turns_left (vector c.here c.next) v) (t || turns_left (vector c.here c.next) v))
    (left_along (vector c.prev c.here) d v some along)
    ∙ ap
    (λ t. cond
    (int_lt (pos 0)
    ((c.here.x -ℤ c.prev.x) *ℤ (c.next.y -ℤ c.prev.y) -ℤ (c.here.y -ℤ c.prev.y) *ℤ (c.next.x -ℤ c.prev.x)))
    (turns_left (vector c.prev c.here) d && t) (turns_left (vector c.prev c.here) d || t))
    (left_along (vector c.here c.next) d v some along)

-- ---- the distance of one corner

-- of the corners that pass a test all but one are behind the first: the distance is that of the one, if it passes
pub one_reached : (p : Point) (test : Corner → Bool) (cs : List Corner) (first : Option (ℕ × Seen)) (i : ℕ)
    → i < length cs
    → ((j : ℕ) → j < length cs → j ≢ i → test (get_or cs j no_corner) ≡ true
    → is_past_first first (vector p (get_or cs j no_corner).here) ≡ true)
    → IsReached p test cs first (if test (get_or cs i no_corner)
    then Some (length_of (vector p (get_or cs i no_corner).here)) else None)
one_reached p test cs first i inside others = by_test (test (get_or cs i no_corner)) refl
  where
    itself : (n : ℕ) → not (nat_lt n n) ≡ true
    itself n = grind arith

    same : {P : Type 0} (i j : ℕ) → (i ≡ j → P) → (j ≢ i → P) → P
    same i j f g = by_lt i j (λ lt. g (λ e. absurd (less j i lt e)))
        (λ le. by_lt j i (λ lt. g (λ e. absurd (never_equal j i lt e))) (λ ge. f (omega (arith, le, ge))))
      where
        less : (j i : ℕ) → i < j → j ≡ i → ⊥
        less j i h e = omega (arith, h, e)

    by_test : (b : Bool) → test (get_or cs i no_corner) ≡ b
        → IsReached p test cs first (cond b (Some (length_of (vector p (get_or cs i no_corner).here))) None)
    by_test true h = record {
      some = record { at = i; within = inside; passes = h; far_is = refl };
      all = λ j lt k. same i j
          (λ e. subst (λ n. (not (nat_lt (length_of (vector p (get_or cs n no_corner).here))
          (length_of (vector p (get_or cs i no_corner).here)))
          || is_past_first first (vector p (get_or cs n no_corner).here)) ≡ true) e
          (either_first _ (is_past_first first (vector p (get_or cs i no_corner).here))
          (itself (length_of (vector p (get_or cs i no_corner).here)))))
          (λ n. either_second _ (is_past_first first (vector p (get_or cs j no_corner).here)) (others j lt n k));
    }
    by_test false h = record {
      some = refl;
      all = λ j lt k. same i j
          (λ e. clash_to (test (get_or cs i no_corner)) (subst (λ n. test (get_or cs n no_corner) ≡ true) (sym e) k) h)
          (λ n. others j lt n k);
    }

-- the vectors back stand in one direction too
back_along : (d v : Point) → IsAlong d v → IsAlong (reversed_direction d) (reversed_direction v)
back_along d v a = record { line = cross_is ∙ a.line; ahead = subst (λ t. pos 0 <ℤ t) (sym dot_is) a.ahead }
  where
    turn : (x y : ℤ) → neg_ℤ x *ℤ neg_ℤ y ≡ x *ℤ y
    turn x y =
        let e : neg_ℤ x ≡ pos 0 -ℤ x = omega (arith, ints) in
        let f : neg_ℤ y ≡ pos 0 -ℤ y = omega (arith, ints) in
        let g : neg_ℤ x *ℤ neg_ℤ y ≡ neg_ℤ x *ℤ (pos 0 -ℤ y) = ap (λ t. neg_ℤ x *ℤ t) f in
        let h = times_minus (neg_ℤ x) (pos 0) y in
        let i : neg_ℤ x *ℤ y ≡ y *ℤ (pos 0 -ℤ x) = ap (λ t. t *ℤ y) e ∙ product_swapped (pos 0 -ℤ x) y in
        let j = times_minus y (pos 0) x in
        omega (arith, ints, g, h, i, j)

    cross_is : cross_of (reversed_direction d) (reversed_direction v) ≡ cross_of d v
    cross_is = let e = turn d.x v.y in let f = turn d.y v.x in omega (arith, ints, e, f)

    dot_is : dot_of (reversed_direction d) (reversed_direction v) ≡ dot_of d v
    dot_is = let e = turn d.x v.x in let f = turn d.y v.y in omega (arith, ints, e, f)

-- so the way back leads into a corner by all of one direction or by none
pub cone_back : (c : Corner) (d v : Point) → IsDirected (reversed_direction d) → IsAlong d v → is_in_cone c (reversed_direction v)
    ≡ is_in_cone c (reversed_direction d)
cone_back c d v some along = cone_along c (reversed_direction d) (reversed_direction v) some (back_along d v along)

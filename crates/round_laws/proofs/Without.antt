-- What may be left out: a blocker with a kept one before it in each direction that spans it, and corners behind one.
--
-- Where both ends of w are strictly behind the line of a cover that d spans, the hit of w comes after the cover's
-- (`cover_before`): the difference of the hits is a weighted sum of the two sides. If each blocker that is left out
-- has a kept one before it, the first of the kept ones is the first of all, since a chain of hits ends at it
-- (`first_without`). A corner behind any spanned blocker is behind the first (`behind_first`), so it changes neither
-- sight nor stops. And what lies strictly on one side of a direction, at both ends, isn't spanned by what is on the
-- other side (`right_of_arc`, `left_of_arc`).
use Rattle.std.proofs.Common.{◌≡◌, ℕ, ◌<◌, ℤ, neg_ℤ, ◌+ℤ◌, ◌-ℤ◌, ◌*ℤ◌, ◌<ℤ◌, ◌≤ℤ◌, ◌∙◌, pos, arith, ap, sym, subst}
use Rattle.std.proofs.Common.{length}
use Rattle.std.proofs.lemmas.Int.{ints, by_lt_z}
use Rattle.std.specs.Prelude.{true, int_lt, Bool, Option, Some, None, false}
use Rattle.plane_spec.specs.Fractions.{is_before}
use Rattle.plane_spec.specs.Vectors.{cross_of, dot_of, IsDirected}
use Rattle.plane_spec.specs.declared.Point.{Point}
use Rattle.sight_spec.specs.Scene.{Scene, blockers_of_scene}
use Rattle.int_laws.proofs.Ring.{times_minus, neg_times}
use Rattle.int_laws.proofs.Signs.{positive_product, tested_positive}
use Rattle.int_laws.proofs.Tests.{less_tested, tested_less}
use Rattle.exact_geom.proofs.Circle.{dot_itself}
use Rattle.front_laws.proofs.InFront.{sides_are, four_of}
use Rattle.front_laws.proofs.InOrder.{before_chain, den_up}
use Rattle.front_laws.proofs.Lists.{by_same}
use Rattle.front_laws.proofs.Tests.{both_of, by_cases, clash_to, some_same}
use Rattle.front_laws.specs.Seen.{Seen, spans, hit_of, side_of, seen_at}
use Rattle.round_laws.specs.Kept.{IsKeptFirst, AreCovered}
use Rattle.sweep_laws.specs.First.{IsFirst}
use Rattle.view_laws.proofs.Lengths.{hit_before, past_of_hit, alike_of, scaled}
use Rattle.view_laws.specs.Views.{is_past_first, IsAlong}

-- ---- covers

-- a wall with both ends strictly behind the line of another is hit after it
pub cover_before : (d : Point) (cover w : Seen) → spans d w ≡ true → int_lt (side_of cover w.from) (pos 0) ≡ true
    → int_lt (side_of cover w.to) (pos 0) ≡ true → is_before (hit_of d cover) (hit_of d w) ≡ true
cover_before d cover w spanned from_past to_past =
    let two = both_of (int_lt (pos 0) (cross_of w.from d)) (int_lt (pos 0) (cross_of d w.to)) spanned in
    falls (cross_of d w.to) (cross_of w.from d) (side_of cover w.from) (side_of cover w.to)
    (cross_of cover.from cover.to *ℤ (cross_of d w.to +ℤ cross_of w.from d))
    (cross_of w.from w.to *ℤ (cross_of d cover.to +ℤ cross_of cover.from d))
    (tested_positive _ two.1) (tested_positive _ two.0) (tested_less _ _ from_past) (tested_less _ _ to_past)
    (sides_are d w cover)
  where
    falls : (a b x y p q : ℤ) → pos 0 <ℤ a → pos 0 <ℤ b → x <ℤ pos 0 → y <ℤ pos 0 → a *ℤ x +ℤ b *ℤ y ≡ p -ℤ q
        → int_lt p q ≡ true
    falls a b x y p q a_up b_up x_down y_down e =
        let f = positive_product a (pos 0 -ℤ x) a_up (omega (arith, ints, x_down)) in
        let g = positive_product b (pos 0 -ℤ y) b_up (omega (arith, ints, y_down)) in
        let i = times_minus a (pos 0) x in
        let j = times_minus b (pos 0) y in
        less_tested p q (omega (arith, ints, e, f, g, i, j))

-- the first of those that are kept is the first of all
pub first_without : (scene : Scene) (p d : Point) (kept : ℕ → Bool) (first : Option (ℕ × Seen))
    → IsKeptFirst p d (blockers_of_scene scene) kept first → AreCovered p d (blockers_of_scene scene) kept
    → IsFirst scene p d first
first_without scene p d kept None bare covered = record {
  none = λ j t within seen. by_cases (kept j)
      (λ k. bare.none j t within k seen)
      (λ k. by_cases (spans d t)
      (λ s. let c = covered j t within k seen s in
      clash_to (spans d c.cover) c.spanned (bare.none c.number c.cover c.within c.is_kept c.seen))
      (λ s. s));
}
first_without scene p d kept (Some f) front covered = record {
  within = front.within;
  seen = front.seen;
  spanned = front.spanned;
  nearest = λ j t within other seen s. by_cases (kept j)
      (λ k. front.nearest j t within k other seen s)
      (λ k. let c = covered j t within k seen s in
      by_same c.number f.0
      (λ e. let same : c.cover ≡ f.1 = some_same c.cover f.1
      (sym c.seen ∙ ap (seen_at p (blockers_of_scene scene)) e ∙ front.seen) in
      subst (λ u. is_before (hit_of d u) (hit_of d t) ≡ true) same c.before)
      (λ n. before_chain (hit_of d f.1) (hit_of d c.cover) (hit_of d t) (den_up d f.1 front.spanned)
      (den_up d c.cover c.spanned) (den_up d t s)
      (front.nearest c.number c.cover c.within c.is_kept n c.seen c.spanned) c.before));
}

-- what is behind a wall that is spanned is behind the first
pub behind_first : (scene : Scene) (p d v : Point) (first : Option (ℕ × Seen)) (k : ℕ) (cover : Seen)
    → IsFirst scene p d first → IsDirected d → IsAlong d v
    → k < length (blockers_of_scene scene) → seen_at p (blockers_of_scene scene) k ≡ Some cover → spans d cover ≡ true
    → int_lt (side_of cover v) (pos 0) ≡ true → is_past_first first v ≡ true
behind_first scene p d v None k cover bare some along within seen spanned behind = clash_to (spans d cover) spanned
    (bare.none k cover within seen)
behind_first scene p d v (Some f) k cover front some along within seen spanned behind =
    by_same k f.0
    (λ e. let same : cover ≡ f.1 = some_same cover f.1
    (sym seen ∙ ap (seen_at p (blockers_of_scene scene)) e ∙ front.seen) in
    subst (λ u. int_lt (side_of u v) (pos 0) ≡ true) same behind)
    (λ n. past_of_hit d v f.1 some along (dot_itself d some)
    (before_chain (hit_of d f.1) (hit_of d cover) (record { num = dot_of d v; den = dot_of d d })
    (den_up d f.1 front.spanned) (den_up d cover spanned) (dot_itself d some)
    (front.nearest k cover within n seen spanned) (hit_before d v cover some along spanned behind)))

-- ---- bodies outside the arc

-- the direction isn't right of a, and both ends are strictly right of it: then it isn't spanned
pub right_of_arc : (a d : Point) (w : Seen) → pos 0 <ℤ cross_of w.from w.to → pos 0 ≤ℤ cross_of a d
    → cross_of a w.from <ℤ pos 0 → cross_of a w.to <ℤ pos 0 → spans d w ≡ false
right_of_arc a d w up left from_right to_right = by_cases (spans d w)
    (λ h. let two = both_of (int_lt (pos 0) (cross_of w.from d)) (int_lt (pos 0) (cross_of d w.to)) h in
    absurd (against (cross_of a w.from) (cross_of d w.to) (cross_of a w.to) (cross_of w.from d) (cross_of a d)
    (cross_of w.from w.to) from_right (tested_positive _ two.1) to_right (tested_positive _ two.0) left up
    (four_of a w.from d w.to)))
    (λ h. h)
  where
    against : (x m y n l o : ℤ) → x <ℤ pos 0 → pos 0 <ℤ m → y <ℤ pos 0 → pos 0 <ℤ n → pos 0 ≤ℤ l → pos 0 <ℤ o
        → x *ℤ m +ℤ y *ℤ n ≡ l *ℤ o → ⊥
    against x m y n l o x_down m_up y_down n_up l_up o_up e =
        let f = positive_product m (pos 0 -ℤ x) m_up (omega (arith, ints, x_down)) in
        let g = positive_product n (pos 0 -ℤ y) n_up (omega (arith, ints, y_down)) in
        let i = times_minus m (pos 0) x in
        let j = times_minus n (pos 0) y in
        let k = none_down o l o_up l_up in
        omega (arith, ints, e, f, g, i, j, k)
      where
        none_down : (o l : ℤ) → pos 0 <ℤ o → pos 0 ≤ℤ l → pos 0 ≤ℤ (l *ℤ o)
        none_down o l h k = by_lt_z (pos 0) l
            (λ lt. let r = positive_product l o lt h in omega (arith, ints, r))
            (λ le. let z : l ≡ pos 0 = omega (arith, ints, k, le) in let r : l *ℤ o ≡ pos 0 *ℤ o = ap (λ t. t *ℤ o) z
            in omega (arith, ints, r))

-- the direction isn't left of a, and both ends are strictly left of it: then it isn't spanned
pub left_of_arc : (a d : Point) (w : Seen) → pos 0 <ℤ cross_of w.from w.to → cross_of a d ≤ℤ pos 0
    → pos 0 <ℤ cross_of a w.from → pos 0 <ℤ cross_of a w.to → spans d w ≡ false
left_of_arc a d w up right from_left to_left = by_cases (spans d w)
    (λ h. let two = both_of (int_lt (pos 0) (cross_of w.from d)) (int_lt (pos 0) (cross_of d w.to)) h in
    absurd (against (cross_of a w.from) (cross_of d w.to) (cross_of a w.to) (cross_of w.from d) (cross_of a d)
    (cross_of w.from w.to) from_left (tested_positive _ two.1) to_left (tested_positive _ two.0) right up
    (four_of a w.from d w.to)))
    (λ h. h)
  where
    against : (x m y n l o : ℤ) → pos 0 <ℤ x → pos 0 <ℤ m → pos 0 <ℤ y → pos 0 <ℤ n → l ≤ℤ pos 0 → pos 0 <ℤ o
        → x *ℤ m +ℤ y *ℤ n ≡ l *ℤ o → ⊥
    against x m y n l o x_up m_up y_up n_up l_down o_up e =
        let f = positive_product x m x_up m_up in
        let g = positive_product y n y_up n_up in
        let k = none_up o l o_up l_down in
        omega (arith, ints, e, f, g, k)
      where
        none_up : (o l : ℤ) → pos 0 <ℤ o → l ≤ℤ pos 0 → (l *ℤ o) ≤ℤ pos 0
        none_up o l h k = by_lt_z l (pos 0)
            (λ lt. let r = positive_product o (pos 0 -ℤ l) h (omega (arith, ints, lt)) in
            let t = times_minus o (pos 0) l in omega (arith, ints, r, t))
            (λ le. let z : l ≡ pos 0 = omega (arith, ints, k, le) in let r : l *ℤ o ≡ pos 0 *ℤ o = ap (λ t. t *ℤ o) z
            in omega (arith, ints, r))

-- nor is a corner there in the direction
pub none_right : (a d v : Point) → IsDirected d → pos 0 ≤ℤ cross_of a d → cross_of a v <ℤ pos 0 → IsAlong d v → ⊥
none_right a d v some left right along =
    let k = alike_of d v some along in
    by_sides k.times k.times_other (cross_of v a) (cross_of d a) (cross_of a v) (cross_of a d) (turn v a) (turn d a)
    k.positive k.positive_other (scaled k.times k.times_other v.x v.y d.x d.y a.x a.y k.x k.y) left right
  where
    turn : (v a : Point) → cross_of v a ≡ neg_ℤ (cross_of a v)
    turn v a = omega (arith, ints)

    by_sides : (k m x y u w : ℤ) → x ≡ neg_ℤ u → y ≡ neg_ℤ w → pos 0 <ℤ k → pos 0 <ℤ m → k *ℤ x ≡ m *ℤ y → pos 0 ≤ℤ w
        → u <ℤ pos 0 → ⊥
    by_sides k m x y u w x_is y_is k_up m_up e left right =
        let f = positive_product k x k_up (omega (arith, ints, x_is, right)) in
        let g = not_up m y m_up (omega (arith, ints, y_is, left)) in
        omega (arith, ints, e, f, g)
      where
        not_up : (m y : ℤ) → pos 0 <ℤ m → y ≤ℤ pos 0 → (m *ℤ y) ≤ℤ pos 0
        not_up m y h k = by_lt_z y (pos 0)
            (λ lt. let r = positive_product m (pos 0 -ℤ y) h (omega (arith, ints, lt)) in
            let t = times_minus m (pos 0) y in omega (arith, ints, r, t))
            (λ le. let z : y ≡ pos 0 = omega (arith, ints, k, le) in let r : m *ℤ y ≡ m *ℤ pos 0 = ap (λ t. m *ℤ t) z
            in omega (arith, ints, r))

pub none_left : (a d v : Point) → IsDirected d → cross_of a d ≤ℤ pos 0 → pos 0 <ℤ cross_of a v → IsAlong d v → ⊥
none_left a d v some right left along = none_right (record { x = neg_ℤ a.x; y = neg_ℤ a.y }) d v some
    (up (cross_of (record { x = neg_ℤ a.x; y = neg_ℤ a.y }) d) (cross_of a d) (flip a d) right)
    (down (cross_of (record { x = neg_ℤ a.x; y = neg_ℤ a.y }) v) (cross_of a v) (flip a v) left) along
  where
    flip : (a d : Point) → cross_of (record { x = neg_ℤ a.x; y = neg_ℤ a.y }) d ≡ neg_ℤ (cross_of a d)
    flip a d = let e = neg_times a.x d.y in let f = neg_times a.y d.x in omega (arith, ints, e, f)

    up : (x y : ℤ) → x ≡ neg_ℤ y → y ≤ℤ pos 0 → pos 0 ≤ℤ x
    up x y e h = omega (arith, ints, e, h)

    down : (x y : ℤ) → x ≡ neg_ℤ y → pos 0 <ℤ y → x <ℤ pos 0
    down x y e h = omega (arith, ints, e, h)

-- Segments of lines that aren't parallel meet where each has its ends on different sides of the other's line, or on it.
--
-- By definition they meet where they cross properly, or where an end of one is in line with the other and in its
-- extents. An orientation has the sign of how far its third point lies before the other line (`Turning`), so a proper
-- crossing is a matter of sides. So are the extents: an end that is on the other line differs from each end of the
-- other segment by a multiple of that line's direction, and the multiple is how far that end lies before the first
-- line, over the cross product of the directions. In x and in y the same numbers are asked for, and one of the two
-- components of a direction isn't 0.
use Rattle.std.proofs.Common.{◌≡◌, refl, sym, ap, ◌∙◌, subst, arith, ℤ, pos, neg_ℤ, ◌+ℤ◌, ◌-ℤ◌, ◌*ℤ◌, ◌≤ℤ◌, Bool, true, false, ◌⊎◌, inl, inr}
use Rattle.std.specs.Prelude.{◌&&◌}
use Rattle.std.specs.Ordering.{int_eq}
use Rattle.std.proofs.lemmas.Int.{ints, by_lt_z}
use Rattle.int_laws.proofs.Ring.{times_neg, zero_times, times_zero, cross_exchanged}
use Rattle.int_laws.proofs.Signs.{positive_product, negative_product}
use Rattle.int_laws.proofs.Tests.{tested_equal}
use Rattle.plane_spec.specs.declared.Point.{Point}
use Rattle.plane_spec.specs.Vectors.{vector, cross_of}
use Rattle.plane_spec.specs.Fractions.{Fraction, RPoint}
use Rattle.plane_spec.specs.RPoints.{orient_of_rpoints, is_between_fractions, is_rpoint_on_segment, do_rsegments_touch}
use Rattle.meet_laws.specs.Stretches.{HasValue, IsAt, is_zero_between, gap}
use Rattle.meet_laws.proofs.Identities.{three_directions, three_directions_up, side_ahead, reach_parts, reach_gathered, both_ahead}
use Rattle.meet_laws.proofs.Values.{HaveOneSign, zero_tested, before_by_value, after_by_value}
use Rattle.meet_laws.proofs.Turning.{side, side_of}
use Rattle.meet_laws.proofs.Signs.{IsNonzero, opposite_alike, apart_scaled, apart_in_both, touch_by_signs}

-- how far before the line from q in direction e the point p + (n / m) d lies, times m: 0 where it lies on it
abbrev pub ahead : Point → Point → Point → Point → ℤ → ℤ → ℤ
ahead p d q e n m = cross_of (vector p q) e *ℤ m -ℤ n *ℤ cross_of d e

side_is_ahead : (p d q e : Point) (n m : ℤ) → side q e p d n m ≡ ahead p d q e n m
side_is_ahead p d q e n m = side_ahead p.x p.y q.x q.y d.x d.y e.x e.y n m

-- a point of the line from p in direction d turns from the other line as it lies before it
pub turn_is : (a c b : RPoint) (p d q e : Point) (n m n3 m3 n4 m4 : ℤ)
    → IsAt a p d n m → IsAt c q e n3 m3 → IsAt b q e n4 m4 → pos 1 ≤ℤ gap n3 m3 n4 m4
    → HaveOneSign (orient_of_rpoints c b a) (ahead p d q e n m)
turn_is a c b p d q e n m n3 m3 n4 m4 at_a at_c at_b up =
    subst (λ t. HaveOneSign (orient_of_rpoints c b a) t) (side_is_ahead p d q e n m)
    (side_of c b a q e p d n3 m3 n4 m4 n m at_c at_b at_a up)

-- ---- between

between_is : (f g h : Fraction) (n m k l i j : ℤ) → HasValue f n m → HasValue g k l → HasValue h i j
    → is_between_fractions f g h ≡ is_zero_between (n *ℤ l -ℤ k *ℤ m) (n *ℤ j -ℤ i *ℤ m)
between_is f g h n m k l i j wf wg wh =
    rw (
      before_by_value f g n m k l wf wg,
      after_by_value f g n m k l wf wg,
      before_by_value f h n m i j wf wh,
      after_by_value f h n m i j wf wh,
    ) refl

opposite_cross : (n t m c : ℤ) → t *ℤ m -ℤ n *ℤ c ≡ pos 0 → n *ℤ neg_ℤ c ≡ neg_ℤ (t *ℤ m)
opposite_cross n t m c e = times_neg n c ∙ ap neg_ℤ (let h : n *ℤ c ≡ t *ℤ m = omega (arith, ints) in h)

reach : (c t u p q d e n m k l : ℤ) → n *ℤ c ≡ neg_ℤ (t *ℤ m) → c *ℤ (q -ℤ p) ≡ neg_ℤ (t *ℤ d) -ℤ u *ℤ e
    → c *ℤ ((p *ℤ m +ℤ n *ℤ d) *ℤ l -ℤ (q *ℤ l +ℤ k *ℤ e) *ℤ m) ≡ m *ℤ (e *ℤ (u *ℤ l -ℤ k *ℤ c))
reach c t u p q d e n m k l meets turns =
    reach_parts c p q d e n m k l
    ∙ ap (λ z. z *ℤ (l *ℤ d) -ℤ (m *ℤ l) *ℤ (c *ℤ (q -ℤ p)) -ℤ (k *ℤ c) *ℤ (m *ℤ e)) meets
    ∙ ap (λ z. neg_ℤ (t *ℤ m) *ℤ (l *ℤ d) -ℤ (m *ℤ l) *ℤ z -ℤ (k *ℤ c) *ℤ (m *ℤ e)) turns
    ∙ reach_gathered t u d e m k l c

-- in one coordinate
apart_in_one : (c t u p q d e n m k l i j : ℤ) → IsNonzero c → pos 1 ≤ℤ m → n *ℤ c ≡ neg_ℤ (t *ℤ m)
    → c *ℤ (q -ℤ p) ≡ neg_ℤ (t *ℤ d) -ℤ u *ℤ e
    → is_zero_between ((p *ℤ m +ℤ n *ℤ d) *ℤ l -ℤ (q *ℤ l +ℤ k *ℤ e) *ℤ m) ((p *ℤ m +ℤ n *ℤ d) *ℤ j
    -ℤ (q *ℤ j +ℤ i *ℤ e) *ℤ m)
    ≡ is_zero_between (e *ℤ (u *ℤ l -ℤ k *ℤ c)) (e *ℤ (u *ℤ j -ℤ i *ℤ c))
apart_in_one c t u p q d e n m k l i j some up meets turns =
    sym (apart_scaled c _ _ some)
    ∙ ap (λ z. is_zero_between z (c *ℤ ((p *ℤ m +ℤ n *ℤ d) *ℤ j -ℤ (q *ℤ j +ℤ i *ℤ e) *ℤ m)))
    (reach c t u p q d e n m k l meets turns)
    ∙ ap (λ z. is_zero_between (m *ℤ (e *ℤ (u *ℤ l -ℤ k *ℤ c))) z) (reach c t u p q d e n m i j meets turns)
    ∙ apart_scaled m _ _ (inr (omega (arith, ints)))

pub some_back : (d e : Point) → IsNonzero (cross_of d e) → IsNonzero (cross_of e d)
some_back d e (inl h) = inr (let x = cross_exchanged d.x d.y e.x e.y in omega (arith, ints, x))
some_back d e (inr h) = inl (let x = cross_exchanged d.x d.y e.x e.y in omega (arith, ints, x))

some_part : (d e : Point) → IsNonzero (cross_of d e) → IsNonzero e.x ⊎ IsNonzero e.y
some_part d e some =
    by_lt_z e.x (pos 0) (λ h. inl (inl h)) (λ h. by_lt_z (pos 0) e.x (λ i. inl (inr i))
    (λ i. by_lt_z e.y (pos 0) (λ j. inr (inl j)) (λ j. by_lt_z (pos 0) e.y (λ k. inr (inr k))
    (λ k. absurd (none (omega (arith, ints)) (omega (arith, ints)) some)))))
  where
    none : e.x ≡ pos 0 → e.y ≡ pos 0 → IsNonzero (cross_of d e) → ⊥
    none ex ey some = flat (rw (ex, ey, times_zero d.x, times_zero d.y) at some)
      where
        flat : IsNonzero (pos 0 -ℤ pos 0) → ⊥
        flat (inl h) = omega (arith, ints)
        flat (inr h) = omega (arith, ints)

-- ---- one end on the other line

crossed_by : Bool → RPoint → RPoint → RPoint → Bool
crossed_by flat x a b = flat && (is_between_fractions x.x a.x b.x && is_between_fractions x.y a.y b.y)

on_line : (a c b : RPoint) (p d q e : Point) (n m n3 m3 n4 m4 : ℤ)
    → IsAt a p d n m → IsAt c q e n3 m3 → IsAt b q e n4 m4 → IsNonzero (cross_of d e)
    → ahead p d q e n m ≡ pos 0
    → (is_between_fractions a.x c.x b.x && is_between_fractions a.y c.y b.y)
    ≡ is_zero_between (ahead q e p d n3 m3) (ahead q e p d n4 m4)
on_line a c b p d q e n m n3 m3 n4 m4 at_a at_c at_b some flat =
    let c' = cross_of e d in
    let t = cross_of (vector p q) e in
    let u = cross_of (vector q p) d in
    let back = some_back d e some in
    let swapped = cross_exchanged d.x d.y e.x e.y in
    let meets : n *ℤ c' ≡ neg_ℤ (t *ℤ m) = ap (λ z. n *ℤ z) swapped ∙ opposite_cross n t m (cross_of d e) flat in
    let in_x = between_is a.x c.x b.x _ _ _ _ _ _ at_a.x at_c.x at_b.x
    ∙ apart_in_one c' t u p.x q.x d.x e.x n m n3 m3 n4 m4 back at_a.x.over meets
    (three_directions p.x p.y q.x q.y d.x d.y e.x e.y) in
    let in_y = between_is a.y c.y b.y _ _ _ _ _ _ at_a.y at_c.y at_b.y
    ∙ apart_in_one c' t u p.y q.y d.y e.y n m n3 m3 n4 m4 back at_a.y.over meets
    (three_directions_up p.x p.y q.x q.y d.x d.y e.x e.y) in
    ap (λ z. z && is_between_fractions a.y c.y b.y) in_x
    ∙ ap (λ z. is_zero_between (e.x *ℤ ahead q e p d n3 m3) (e.x *ℤ ahead q e p d n4 m4) && z) in_y
    ∙ apart_in_both e.x e.y (ahead q e p d n3 m3) (ahead q e p d n4 m4) (some_part d e some)

-- where a test passes, the other two are one
and_alike : (x y z : Bool) → (x ≡ true → y ≡ z) → x && y ≡ x && z
and_alike true y z h = h refl
and_alike false y z h = refl

place_on : (a c b : RPoint) (p d q e : Point) (n m n3 m3 n4 m4 : ℤ)
    → IsAt a p d n m → IsAt c q e n3 m3 → IsAt b q e n4 m4 → IsNonzero (cross_of d e) → pos 1 ≤ℤ gap n3 m3 n4 m4
    → is_rpoint_on_segment a c b ≡
    (int_eq (ahead p d q e n m) (pos 0) && is_zero_between (ahead q e p d n3 m3) (ahead q e p d n4 m4))
place_on a c b p d q e n m n3 m3 n4 m4 at_a at_c at_b some up =
    let between = is_between_fractions a.x c.x b.x && is_between_fractions a.y c.y b.y in
    ap (λ z. z && between) (zero_tested _ _ (turn_is a c b p d q e n m n3 m3 n4 m4 at_a at_c at_b up))
    ∙ and_alike (int_eq (ahead p d q e n m) (pos 0)) between
    (is_zero_between (ahead q e p d n3 m3) (ahead q e p d n4 m4))
    (λ h. on_line a c b p d q e n m n3 m3 n4 m4 at_a at_c at_b some (tested_equal (ahead p d q e n m) (pos 0) h))

-- ---- lines that aren't parallel

not_both : (c t n m k l : ℤ) → IsNonzero c → pos 1 ≤ℤ gap n m k l → t *ℤ m -ℤ n *ℤ c ≡ pos 0
    → t *ℤ l -ℤ k *ℤ c ≡ pos 0 → ⊥
not_both c t n m k l some up first second = by_sign some
  where
    flat : c *ℤ gap n m k l ≡ pos 0
    flat = both_ahead c t n m k l ∙ ap (λ z. z *ℤ l -ℤ (t *ℤ l -ℤ k *ℤ c) *ℤ m) first
        ∙ ap (λ z. pos 0 *ℤ l -ℤ z *ℤ m) second ∙ rw (zero_times l, zero_times m) refl

    by_sign : IsNonzero c → ⊥
    by_sign (inl h) = let e = negative_product c (gap n m k l) h (omega (arith, ints))
        in let f = flat in omega (arith, ints, e, f)
    by_sign (inr h) = let e = positive_product c (gap n m k l) h (omega (arith, ints))
        in let f = flat in omega (arith, ints, e, f)

-- two lines that aren't parallel meet where each has its ends on different sides of the other, or on it
pub meeting_across : (a b c f : RPoint) (p d q e : Point) (n1 m1 n2 m2 n3 m3 n4 m4 : ℤ)
    → IsAt a p d n1 m1 → IsAt b p d n2 m2 → IsAt c q e n3 m3 → IsAt f q e n4 m4 → IsNonzero (cross_of d e)
    → pos 1 ≤ℤ gap n1 m1 n2 m2 → pos 1 ≤ℤ gap n3 m3 n4 m4
    → do_rsegments_touch a b c f ≡
    (is_zero_between (ahead p d q e n1 m1) (ahead p d q e n2 m2)
    && is_zero_between (ahead q e p d n3 m3) (ahead q e p d n4 m4))
unfolding do_rsegments_touch
meeting_across a b c f p d q e n1 m1 n2 m2 n3 m3 n4 m4 at_a at_b at_c at_f some up up' =
    let back = some_back d e some in
    let v = ahead p d q e n1 m1 in
    let w = ahead p d q e n2 m2 in
    let s = ahead q e p d n3 m3 in
    let t = ahead q e p d n4 m4 in
    let turn_c = turn_is c a b q e p d n3 m3 n1 m1 n2 m2 at_c at_a at_b up in
    let turn_f = turn_is f a b q e p d n4 m4 n1 m1 n2 m2 at_f at_a at_b up in
    let turn_a = turn_is a c f p d q e n1 m1 n3 m3 n4 m4 at_a at_c at_f up' in
    let turn_b = turn_is b c f p d q e n2 m2 n3 m3 n4 m4 at_b at_c at_f up' in
    rw (
      opposite_alike _ _ s t turn_c turn_f,
      opposite_alike _ _ v w turn_a turn_b,
      place_on a c f p d q e n1 m1 n3 m3 n4 m4 at_a at_c at_f some up',
      place_on b c f p d q e n2 m2 n3 m3 n4 m4 at_b at_c at_f some up',
      place_on c a b q e p d n3 m3 n1 m1 n2 m2 at_c at_a at_b back up,
      place_on f a b q e p d n4 m4 n1 m1 n2 m2 at_f at_a at_b back up,
    )
    (touch_by_signs v w s t
    (λ h i. not_both (cross_of d e) (cross_of (vector p q) e) n1 m1 n2 m2 some up h i)
    (λ h i. not_both (cross_of e d) (cross_of (vector q p) d) n3 m3 n4 m4 back up' h i))

-- The cone of a corner, and that of the corner turned round: a direction along neither wall is in one of the two.
--
-- Left of both walls, left of one, or of none: a direction that isn't in the cone is right of a wall, or in line with
-- one. By the identity of four directions it is then left of both turned walls where these turn left, and else of one
-- of them.
use Rattle.std.specs.Prelude.{false, int_lt, ◌&&◌, ◌||◌, if◌then◌else◌, Bool, true}
use Rattle.std.proofs.Common.{arith, ℕ, ◌≡◌, ◌+ℤ◌, ◌-ℤ◌, ◌*ℤ◌, pos, ◌<ℤ◌, ap, neg_ℤ, ◌∙◌, inl, inr, sym, ◌⊎◌, ◌≤ℤ◌}
use Rattle.std.proofs.Common.{refl}
use Rattle.std.proofs.lemmas.Int.{ints, by_lt_z}
use Rattle.std.proofs.lemmas.Bool.{and_cases, or_parts, and_from}
use borrow.Author.Differences.{down, up}
use Rattle.int_laws.proofs.Ring.{diff, minus_diff, product_diff, same_diff, sum_diff, is_diff, times_neg, zero_times}
use Rattle.int_laws.proofs.Ring.{product_swapped, times_zero}
use Rattle.int_laws.proofs.Signs.{positive_product, square, negative_product, negative_product_both}
use Rattle.int_laws.proofs.Signs.{not_negative_product, not_positive_tested, opposite_product, positive_factor}
use Rattle.int_laws.proofs.Signs.{positive_tested, tested_not_positive}
use Rattle.plane_spec.specs.declared.Point.{Point}
use Rattle.plane_spec.specs.Vectors.{cross_of, dot_of, turns_left, is_left_of_line, orient_of, vector}
use Rattle.plane_spec.specs.Cones.{corner, is_in_cone}
use Rattle.exact_geom.proofs.Orientation.{orient_of_ends_exchanged}
use Rattle.plane_laws.proofs.Points.Heights.{along}
use Rattle.plane_laws.proofs.Points.Directions.{exchanged, cross_back, turn_is}
use Rattle.cone_laws.specs.Off.{LeadsOff}

lagrange_diff : (a b c d e f g h i j k l : ℕ) →
    (diff a b *ℤ diff a b +ℤ diff c d *ℤ diff c d) *ℤ (diff e f *ℤ diff i j +ℤ diff g h *ℤ diff k l)
    ≡ (diff a b *ℤ diff e f +ℤ diff c d *ℤ diff g h) *ℤ (diff a b *ℤ diff i j +ℤ diff c d *ℤ diff k l)
    +ℤ (diff a b *ℤ diff g h -ℤ diff c d *ℤ diff e f) *ℤ (diff a b *ℤ diff k l -ℤ diff c d *ℤ diff i j)
lagrange_diff a b c d e f g h i j k l = simp (product_diff, minus_diff, sum_diff) (same_diff _ _ _ _ (omega arith))

pub lagrange : (a b c : Point) → dot_of a a *ℤ dot_of b c ≡ dot_of a b *ℤ dot_of a c +ℤ cross_of a b *ℤ cross_of a c
lagrange a b c =
    rw (is_diff a.x, is_diff a.y, is_diff b.x, is_diff b.y, is_diff c.x, is_diff c.y)
    (lagrange_diff (up a.x) (down a.x) (up a.y) (down a.y) (up b.x) (down b.x) (up b.y) (down b.y) (up c.x) (down c.x)
    (up c.y) (down c.y))

-- in line with the wall before the corner, a direction leads to the side of the wall after it to which that one
-- doesn't turn
by_before : (b a d : Point) → cross_of b d ≡ pos 0 → dot_of b b *ℤ cross_of a d ≡ neg_ℤ (dot_of b d *ℤ cross_of b a)
by_before b a d line =
    let e = along b a d in
    let z = ap (λ t. t *ℤ dot_of a b) line ∙ zero_times (dot_of a b) in
    let s = ap (λ t. dot_of b d *ℤ t) (exchanged b a) ∙ times_neg (dot_of b d) (cross_of b a) in
    omega (arith, ints, e, z, s)

by_after : (b a d : Point) → cross_of a d ≡ pos 0 → dot_of a a *ℤ cross_of b d ≡ dot_of a d *ℤ cross_of b a
by_after b a d line =
    let e = along a b d in
    let z = ap (λ t. t *ℤ dot_of b a) line ∙ zero_times (dot_of b a) in
    omega (arith, ints, e, z)

-- a direction with something to its left leads somewhere
some_way : (d w : Point) → pos 0 <ℤ cross_of d w → pos 0 <ℤ dot_of d d
some_way d w h =
    by_lt_z (pos 0) (dot_of d d) (λ p. p)
    (λ q. let x = square d.x in
    let y = square d.y in
    let l = lagrange d w w in
    let none : dot_of d d ≡ pos 0 = omega (arith, ints, x, y, q) in
    let z = ap (λ t. t *ℤ dot_of w w) none ∙ zero_times (dot_of w w) in
    let s = square (dot_of d w) in
    let c = positive_product (cross_of d w) (cross_of d w) h h in
    absurd (omega (arith, ints, l, z, s, c)))

-- right of both walls where the corner turns right, and otherwise of at least one
right_of : (b a d w : Point) → pos 0 <ℤ cross_of b w → pos 0 <ℤ cross_of a w → LeadsOff b a d
    → (if int_lt (pos 0) (cross_of b a) then (int_lt (pos 0) (cross_of b d) && int_lt (pos 0) (cross_of a d))
    else (int_lt (pos 0) (cross_of b d) || int_lt (pos 0) (cross_of a d))) ≡ false
    → ((cross_of b a <ℤ pos 0) × ((cross_of b d <ℤ pos 0) × (cross_of a d <ℤ pos 0)))
    ⊎ ((pos 0 ≤ℤ cross_of b a) × ((cross_of b d <ℤ pos 0) ⊎ (cross_of a d <ℤ pos 0)))
right_of b a d w bw aw off h =
    by_lt_z (pos 0) (cross_of b a)
    (λ left. inr (
      omega (arith, ints, left),
      turning left
          (and_cases (int_lt (pos 0) (cross_of b d)) (int_lt (pos 0) (cross_of a d))
          (sym (ap (λ t. if t then (int_lt (pos 0) (cross_of b d) && int_lt (pos 0) (cross_of a d)) else
          (int_lt (pos 0) (cross_of b d) || int_lt (pos 0) (cross_of a d))) (positive_tested (cross_of b a) left))
          ∙ h)),
    ))
    (λ not_left.
    let parts = or_parts (int_lt (pos 0) (cross_of b d)) (int_lt (pos 0) (cross_of a d))
    (sym (ap (λ t. if t then (int_lt (pos 0) (cross_of b d) && int_lt (pos 0) (cross_of a d)) else
    (int_lt (pos 0) (cross_of b d) || int_lt (pos 0) (cross_of a d))) (not_positive_tested (cross_of b a) not_left))
    ∙ h) in
    let b_low = tested_not_positive (cross_of b d) parts.0 in
    let a_low = tested_not_positive (cross_of a d) parts.1 in
    by_lt_z (cross_of b a) (pos 0)
    (λ right. inl (right, (strict_b right b_low a_low, strict_a right b_low a_low)))
    (λ not_right. inr (not_right, straight (omega (arith, ints, not_left, not_right)) b_low a_low)))
  where
    b_some : pos 0 <ℤ dot_of b b
    b_some = some_way b w bw

    a_some : pos 0 <ℤ dot_of a a
    a_some = some_way a w aw

    turning : pos 0 <ℤ cross_of b a → (int_lt (pos 0) (cross_of b d) ≡ false)
        ⊎ (int_lt (pos 0) (cross_of a d) ≡ false) → (cross_of b d <ℤ pos 0) ⊎ (cross_of a d <ℤ pos 0)
    turning left (inl k) =
        by_lt_z (cross_of b d) (pos 0) (λ p. inl p)
        (λ q. let line : cross_of b d ≡ pos 0 = let l = tested_not_positive (cross_of b d) k in
        omega (arith, ints, q, l) in
        let e = by_before b a d line in
        let p = positive_product (dot_of b d) (cross_of b a) (off.not_back line) left in
        by_lt_z (cross_of a d) (pos 0) (λ r. inr r)
        (λ r. let n = not_negative_product (dot_of b b) (cross_of a d) (omega (arith, ints, b_some)) r in
        absurd (omega (arith, ints, e, p, n))))
    turning left (inr k) =
        by_lt_z (cross_of a d) (pos 0) (λ p. inr p)
        (λ q. let line : cross_of a d ≡ pos 0 = let l = tested_not_positive (cross_of a d) k in
        omega (arith, ints, q, l) in
        let e = by_after b a d line in
        let p = negative_product (dot_of a d) (cross_of b a) (off.not_on line) left in
        by_lt_z (cross_of b d) (pos 0) (λ r. inl r)
        (λ r. let n = not_negative_product (dot_of a a) (cross_of b d) (omega (arith, ints, a_some)) r in
        absurd (omega (arith, ints, e, p, n))))

    strict_b : cross_of b a <ℤ pos 0 → cross_of b d ≤ℤ pos 0 → cross_of a d ≤ℤ pos 0 → cross_of b d <ℤ pos 0
    strict_b right b_low a_low =
        by_lt_z (cross_of b d) (pos 0) (λ p. p)
        (λ q. let line : cross_of b d ≡ pos 0 = omega (arith, ints, q, b_low) in
        let e = by_before b a d line in
        let turn = product_swapped (dot_of b d) (cross_of b a) in
        let p = negative_product (cross_of b a) (dot_of b d) right (off.not_back line) in
        let swap = product_swapped (dot_of b b) (cross_of a d) in
        let n = opposite_product (cross_of a d) (dot_of b b) a_low (omega (arith, ints, b_some)) in
        absurd (omega (arith, ints, e, turn, p, swap, n)))

    strict_a : cross_of b a <ℤ pos 0 → cross_of b d ≤ℤ pos 0 → cross_of a d ≤ℤ pos 0 → cross_of a d <ℤ pos 0
    strict_a right b_low a_low =
        by_lt_z (cross_of a d) (pos 0) (λ p. p)
        (λ q. let line : cross_of a d ≡ pos 0 = omega (arith, ints, q, a_low) in
        let e = by_after b a d line in
        let p = negative_product_both (dot_of a d) (cross_of b a) (off.not_on line) right in
        let swap = product_swapped (dot_of a a) (cross_of b d) in
        let n = opposite_product (cross_of b d) (dot_of a a) b_low (omega (arith, ints, a_some)) in
        absurd (omega (arith, ints, e, p, swap, n)))

    straight : cross_of b a ≡ pos 0 → cross_of b d ≤ℤ pos 0 → cross_of a d ≤ℤ pos 0
        → (cross_of b d <ℤ pos 0) ⊎ (cross_of a d <ℤ pos 0)
    straight line b_low a_low =
        by_lt_z (cross_of b d) (pos 0) (λ p. inl p)
        (λ q. by_lt_z (cross_of a d) (pos 0) (λ p. inr p)
        (λ r.
        let on_b : cross_of b d ≡ pos 0 = omega (arith, ints, q, b_low) in
        let on_a : cross_of a d ≡ pos 0 = omega (arith, ints, r, a_low) in
        let e = along b a w in
        let swap = exchanged b a in
        let z = ap (λ t. dot_of b w *ℤ t) (let s : cross_of a b ≡ pos 0 = omega (arith, ints, swap, line) in s)
        ∙ times_zero (dot_of b w) in
        let more = positive_product (dot_of b b) (cross_of a w) b_some aw in
        let turn = product_swapped (cross_of b w) (dot_of a b) in
        let same = positive_factor (dot_of a b) (cross_of b w) (omega (arith, ints, e, z, more, turn)) bw in
        let l = lagrange b a d in
        let zz = ap (λ t. t *ℤ cross_of b d) line ∙ zero_times (cross_of b d) in
        let dots : dot_of b a ≡ dot_of a b = omega (arith, ints) in
        let dots' = ap (λ t. t *ℤ dot_of b d) dots in
        let p = positive_product (dot_of a b) (dot_of b d) same (off.not_back on_b) in
        let swap_n = product_swapped (dot_of b b) (dot_of a d) in
        let n = negative_product (dot_of a d) (dot_of b b) (off.not_on on_a) b_some in
        absurd (omega (arith, ints, l, zz, dots', p, swap_n, n))))

-- in the cone of the corner turned round
pub in_turned_cone : (u v z d w : Point) → pos 0 <ℤ cross_of (vector u v) w → pos 0 <ℤ cross_of (vector v z) w
    → LeadsOff (vector u v) (vector v z) d → is_in_cone (corner u v z) d ≡ false → is_in_cone (corner z v u) d ≡ true
unfolding is_in_cone
in_turned_cone u v z d w uw zw off h =
    by_sides (right_of (vector u v) (vector v z) d w uw zw off
    (ap (λ t. if int_lt (pos 0) t then (int_lt (pos 0) (cross_of (vector u v) d) && int_lt (pos 0)
    (cross_of (vector v z) d)) else (int_lt (pos 0) (cross_of (vector u v) d) || int_lt (pos 0)
    (cross_of (vector v z) d))) (turn_is u v z) ∙ h))
  where
    back_z : cross_of (vector v z) d <ℤ pos 0 → turns_left (vector z v) d ≡ true
    back_z k = let e = cross_back d v z in positive_tested (cross_of (vector z v) d) (omega (arith, ints, e, k))

    back_u : cross_of (vector u v) d <ℤ pos 0 → turns_left (vector v u) d ≡ true
    back_u k = let e = cross_back d u v in positive_tested (cross_of (vector v u) d) (omega (arith, ints, e, k))

    by_sides : ((cross_of (vector u v) (vector v z) <ℤ pos 0)
        × ((cross_of (vector u v) d <ℤ pos 0) × (cross_of (vector v z) d <ℤ pos 0)))
        ⊎ ((pos 0 ≤ℤ cross_of (vector u v) (vector v z))
        × ((cross_of (vector u v) d <ℤ pos 0) ⊎ (cross_of (vector v z) d <ℤ pos 0)))
        → (if is_left_of_line z v u then (turns_left (vector z v) d && turns_left (vector v u) d)
        else (turns_left (vector z v) d || turns_left (vector v u) d)) ≡ true
    by_sides (inl k) =
        let t = turn_is u v z in let o = orient_of_ends_exchanged u v z in let s = k.0 in
        ap (λ t. if t then (turns_left (vector z v) d && turns_left (vector v u) d) else
        (turns_left (vector z v) d || turns_left (vector v u) d))
        (positive_tested (orient_of z v u) (omega (arith, ints, t, o, s)))
        ∙ and_from _ _ (back_z k.1.1) (back_u k.1.0)
    by_sides (inr k) =
        let t = turn_is u v z in let o = orient_of_ends_exchanged u v z in let s = k.0 in
        ap (λ t. if t then (turns_left (vector z v) d && turns_left (vector v u) d) else
        (turns_left (vector z v) d || turns_left (vector v u) d))
        (not_positive_tested (orient_of z v u) (omega (arith, ints, t, o, s)))
        ∙ or_either (turns_left (vector z v) d) (turns_left (vector v u) d)
        (elim k.1 [ inl b ↦ inr (back_u b) | inr a ↦ inl (back_z a) ])
      where
        or_either : (s t : Bool) → (s ≡ true) ⊎ (t ≡ true) → (s || t) ≡ true
        or_either true t h = refl
        or_either false t (inl h) = let absurdity : true ≡ false = sym h in cc
        or_either false t (inr h) = h

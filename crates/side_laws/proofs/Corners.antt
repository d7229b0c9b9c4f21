-- Strips along a wall: which walls at its corners, and which others, they clear.
use Rattle.std.specs.Prelude.{false}
use Rattle.std.proofs.Common.{arith, pos, ◌<ℤ◌, ◌≤ℤ◌, ap, ◌≡◌, ◌*ℤ◌, ◌∙◌, neg_ℤ}
use Rattle.std.proofs.lemmas.Int.{ints, by_lt_z}
use Rattle.int_laws.proofs.Signs.{not_negative_product, positive_factor, positive_product}
use Rattle.int_laws.proofs.Signs.{opposite_product}
use Rattle.int_laws.proofs.Ring.{product_swapped, times_zero, times_neg, zero_times, neg_times}
use Rattle.plane_spec.specs.declared.Point.{Point}
use Rattle.plane_spec.specs.declared.Segment.{Segment}
use Rattle.plane_spec.specs.Vectors.{dot_of, vector, cross_of, orient_of, same_point}
use Rattle.plane_spec.specs.Segments.{do_touch}
use Rattle.exact_geom.proofs.Orientation.{orient_of_first_exchanged, orient_of_cycled}
use Rattle.plane_laws.proofs.Points.Between.{IsAlong, long, low_apart, mixed, high_apart, low, height_positive}
use Rattle.plane_laws.proofs.Points.Between.{height_none}
use Rattle.plane_laws.proofs.Points.Heights.{height, along, same_way, height_from, four}
use Rattle.plane_laws.proofs.Points.Directions.{exchanged, at_start, at_end, back_cross, cross_back, minus_cross}
use Rattle.plane_laws.proofs.Points.Directions.{turn_is}
use Rattle.plane_laws.proofs.Points.Directions.{cross_none, at_both, none_cross}
use Rattle.plane_laws.proofs.Segments.Touching.{changes, never_down, never_up}
use Rattle.winding_laws.proofs.Strips.{Clears, clears_left, clears_down, line_linear, clears_right, clears_up}
use Rattle.winding_laws.proofs.Near.{linear, square, constant}

-- the direction from v to x is that of the wall: signs of cross products with it
pub way_positive : (v z x c : Point) → IsAlong v z x → pos 0 <ℤ cross_of (vector v z) c
    → pos 0 <ℤ cross_of (vector v x) c
way_positive v z x c h more =
    let e = along (vector v z) c (vector v x) in
    let line : cross_of (vector v z) (vector v x) *ℤ dot_of c (vector v z) ≡ pos 0 = ap
    (λ t. t *ℤ dot_of c (vector v z)) h.between.line ∙ zero_times (dot_of c (vector v z)) in
    let k = long v z x h in
    let way = low_apart x v z h.between h.apart in
    let first = positive_product (dot_of (vector v z) (vector v x)) (cross_of (vector v z) c) way more in
    let one = exchanged c (vector v z) in
    let two = exchanged c (vector v x) in
    let flip = times_neg (dot_of (vector v z) (vector v x)) (cross_of c (vector v z)) in
    let flip_two = times_neg (dot_of (vector v z) (vector v z)) (cross_of c (vector v x)) in
    let one' = ap (λ t. dot_of (vector v z) (vector v x) *ℤ t) one in
    let two' = ap (λ t. dot_of (vector v z) (vector v z) *ℤ t) two in
    let turn = product_swapped (dot_of (vector v z) (vector v z)) (cross_of (vector v x) c) in
    positive_factor (cross_of (vector v x) c) (dot_of (vector v z) (vector v z))
    (omega (arith, ints, e, line, first, flip, flip_two, one', two', turn)) k

-- the same, of negative ones
pub way_negative : (v z x c : Point) → IsAlong v z x → pos 0 <ℤ cross_of c (vector v z)
    → pos 0 <ℤ cross_of c (vector v x)
way_negative v z x c h more =
    let e = along (vector v z) c (vector v x) in
    let line : cross_of (vector v z) (vector v x) *ℤ dot_of c (vector v z) ≡ pos 0 = ap
    (λ t. t *ℤ dot_of c (vector v z)) h.between.line ∙ zero_times (dot_of c (vector v z)) in
    let k = long v z x h in
    let way = low_apart x v z h.between h.apart in
    let first = positive_product (dot_of (vector v z) (vector v x)) (cross_of c (vector v z)) way more in
    let turn = product_swapped (dot_of (vector v z) (vector v z)) (cross_of c (vector v x)) in
    positive_factor (cross_of c (vector v x)) (dot_of (vector v z) (vector v z))
    (omega (arith, ints, e, line, first, turn)) k

-- ---- the strip from near v to near x, left of the wall from v to z

-- the wall itself
pub clears_own : (v z x d e : Point) → IsAlong v z x → pos 0 <ℤ cross_of (vector v z) d
    → pos 0 <ℤ cross_of (vector v z) e → Clears v z v d x e
clears_own v z x d e h left left_too =
    clears_left v z v d x e (linear (at_start v z) left) (linear h.between.line left_too)

-- the wall before it, where d is left of both
pub clears_before : (u v z x d e : Point) → IsAlong v z x → pos 0 <ℤ cross_of (vector u v) d
    → pos 0 <ℤ cross_of (vector v z) d → pos 0 <ℤ cross_of (vector v z) e → Clears u v v d x e
clears_before u v z x d e h before left left_too =
    by_lt_z (pos 0) (orient_of u v z)
    (λ turns_left.
    clears_left u v v d x e (linear (at_end u v) before)
    (square (height_positive v z x (record { a = u; b = v }) h
    (let i = at_end u v in omega (arith, ints, i)) turns_left)))
    (λ not_left. by_lt_z (orient_of u v z) (pos 0)
    (λ turns_right.
    let t = turn_is u v z in
    let swap = exchanged (vector u v) (vector v z) in
    let first = way_positive v z x (vector u v) h (omega (arith, ints, t, swap, turns_right)) in
    let back = back_cross (vector v x) u v in
    let over = orient_of_first_exchanged v x u in
    let over_v = at_end x v in
    let way = way_positive v z x d h left in
    clears_down u v v d x e
    (square (omega (arith, ints, first, back, over)))
    (linear over_v (lin x v e d (omega (arith, ints, way)))))
    (λ not_right.
    let straight : orient_of u v z ≡ pos 0 = omega (arith, ints, not_left, not_right) in
    let t = turn_is u v z in
    let swap = exchanged (vector u v) (vector v z) in
    let line : cross_of (vector v z) (vector u v) ≡ pos 0 = omega (arith, ints, t, swap, straight) in
    clears_left u v v d x e (linear (at_end u v) before)
    (linear (height_none v z x (record { a = u; b = v }) h (at_end u v) straight)
    (same_way (vector v z) (vector u v) d e line (omega (arith, ints, left)) before left_too))))
  where
    lin : (x v e d : Point) → pos 0 <ℤ cross_of (vector v x) d → pos 0 <ℤ line_linear x e v d v
    lin x v e d h =
        let a = minus_cross e d (vector x v) in
        let b = exchanged d (vector x v) in
        let c = exchanged e (vector x v) in
        let f = cross_back d v x in
        omega (arith, ints, a, b, c, f, h)

-- the wall after it, where the strip goes to its end and e is left of both
pub clears_after : (v z w d e : Point) → pos 0 <ℤ cross_of (vector v z) d → pos 0 <ℤ cross_of (vector v z) e
    → pos 0 <ℤ cross_of (vector z w) e → Clears z w v d z e
clears_after v z w d e left left_too after =
    let turn = orient_of_cycled v z w in
    let t = turn_is v z w in
    by_lt_z (pos 0) (orient_of v z w)
    (λ turns_left. clears_left z w v d z e (square (omega (arith, ints, turn, turns_left)))
    (linear (at_start z w) after))
    (λ not_left. by_lt_z (orient_of v z w) (pos 0)
    (λ turns_right.
    let over = orient_of_first_exchanged v z w in
    clears_down z w v d z e (linear (at_start z v) (lin z v e d left_too))
    (square (omega (arith, ints, over, turns_right))))
    (λ not_right.
    let straight : orient_of v z w ≡ pos 0 = omega (arith, ints, not_left, not_right) in
    clears_left z w v d z e
    (linear (omega (arith, ints, turn, straight)) (same_way (vector v z) (vector z w) e d
    (omega (arith, ints, t, straight)) (omega (arith, ints, left_too)) after left))
    (linear (at_start z w) after)))
  where
    lin : (z v e d : Point) → pos 0 <ℤ cross_of (vector v z) e → pos 0 <ℤ line_linear z e v d z
    lin z v e d h =
        let a = cross_none (vector e d) z in
        let b = cross_back e v z in
        omega (arith, ints, a, b, h)

-- the wall after it, where the strip ends before the corner, of which y is left of both
pub clears_later : (v z w x d e y : Point) → IsAlong v z x → same_point x z ≡ false → pos 0 <ℤ cross_of (vector v z) d
    → pos 0 <ℤ cross_of (vector v z) e
    → pos 0 <ℤ cross_of (vector v z) y → pos 0 <ℤ cross_of (vector z w) y → Clears z w v d x e
clears_later v z w x d e y h short left left_too y_left y_after =
    let turn = orient_of_cycled v z w in
    let t = turn_is v z w in
    by_lt_z (pos 0) (orient_of v z w)
    (λ turns_left.
    let at_v : pos 0 <ℤ orient_of z w v = omega (arith, ints, turn, turns_left) in
    clears_left z w v d x e (square at_v) (square (before_end v z x (record { a = z; b = w }) h short at_v
    (at_start z w))))
    (λ not_left. by_lt_z (orient_of v z w) (pos 0)
    (λ turns_right.
    let o = orient_of_first_exchanged z w v in
    let at_v : pos 0 <ℤ orient_of w z v = omega (arith, ints, turn, turns_right, o) in
    clears_right z w v d x e (square at_v) (square (before_end v z x (record { a = w; b = z }) h short at_v
    (at_end w z))))
    (λ not_right.
    let straight : orient_of v z w ≡ pos 0 = omega (arith, ints, not_left, not_right) in
    let at_v : orient_of z w v ≡ pos 0 = omega (arith, ints, turn, straight) in
    let line : cross_of (vector v z) (vector z w) ≡ pos 0 = omega (arith, ints, t, straight) in
    clears_left z w v d x e
    (linear at_v (same_way (vector v z) (vector z w) y d line (omega (arith, ints, y_left)) y_after left))
    (linear (height_none v z x (record { a = z; b = w }) h at_v (at_start z w))
    (same_way (vector v z) (vector z w) y e line (omega (arith, ints, y_left)) y_after left_too))))
  where
    before_end : (v z x : Point) (j : Segment) → IsAlong v z x → same_point x z ≡ false → pos 0 <ℤ height j v
        → height j z ≡ pos 0 → pos 0 <ℤ height j x
    before_end v z x j h short hv hz =
        let m = mixed v z x j h.between.line in
        let k = long v z x h in
        let first = positive_product (dot_of (vector v z) (vector x z)) (height j v)
        (high_apart x v z h.between short) hv in
        let second = ap (λ t. dot_of (vector v z) (vector v x) *ℤ t) hz
        ∙ times_zero (dot_of (vector v z) (vector v x)) in
        let turn = product_swapped (dot_of (vector v z) (vector v z)) (height j x) in
        positive_factor (height j x) (dot_of (vector v z) (vector v z)) (omega (arith, ints, m, first, second, turn)) k

-- a wall that doesn't touch it
pub clears_other : (a b v z x d e : Point) → IsAlong v z x
    → (cross_of (vector a b) d ≡ pos 0 → cross_of (vector a b) (vector v z) ≡ pos 0 → ⊥) → do_touch a b v z ≡ false
    → pos 0 <ℤ cross_of (vector v z) d → pos 0 <ℤ cross_of (vector v z) e → Clears a b v d x e
clears_other a b v z x d e h real free left left_too =
    let c = changes a b v z in
    let o_v = orient_of_first_exchanged a b v in
    let o_z = orient_of_first_exchanged a b z in
    by_lt_z (pos 0) (orient_of a b v)
    (λ v_up. by_lt_z (pos 0) (orient_of a b z)
    (λ z_up. clears_left a b v d x e (square v_up) (square
    (height_positive v z x (record { a = a; b = b }) h (omega (arith, ints, v_up)) z_up)))
    (λ z_down. by_line (λ at_a at_b. never_down a b v z free (omega (arith, ints, v_up)) z_down at_a at_b
    (omega (arith, ints, v_up, z_down)))
    (λ at_a at_b. absurd (omega (arith, ints, c, at_a, at_b, v_up, z_down)))))
    (λ v_down. by_lt_z (pos 0) (orient_of a b z)
    (λ z_up. by_line (λ at_a at_b. absurd (omega (arith, ints, c, at_a, at_b, v_down, z_up)))
    (λ at_a at_b. never_up a b v z free v_down (omega (arith, ints, z_up)) at_a at_b
    (omega (arith, ints, v_down, z_up))))
    (λ z_down. by_lt_z (orient_of a b z) (pos 0)
    (λ z_under. by_lt_z (orient_of a b v) (pos 0)
    (λ v_under. clears_right a b v d x e (square (omega (arith, ints, o_v, v_under)))
    (square (height_positive v z x (record { a = b; b = a }) h (omega (arith, ints, o_v, v_under))
    (omega (arith, ints, o_z, z_under)))))
    (λ v_on. by_line (λ at_a at_b. never_down a b v z free v_on z_down at_a at_b (omega (arith, ints, v_on, z_under)))
    (λ at_a at_b. absurd (omega (arith, ints, c, at_a, at_b, v_on, z_under)))))
    (λ z_on. by_lt_z (orient_of a b v) (pos 0)
    (λ v_under. by_line (λ at_a at_b. absurd (omega (arith, ints, c, at_a, at_b, v_under, z_on)))
    (λ at_a at_b. never_up a b v z free v_down z_on at_a at_b (omega (arith, ints, v_under, z_on))))
    (λ v_on. in_line (omega (arith, ints, v_on, v_down)) (omega (arith, ints, z_on, z_down))))))
  where
    by_line : (orient_of v z a ≤ℤ pos 0 → pos 0 ≤ℤ orient_of v z b → ⊥)
        → (pos 0 ≤ℤ orient_of v z a → orient_of v z b ≤ℤ pos 0 → ⊥) → Clears a b v d x e
    by_line not_down not_up =
        by_lt_z (pos 0) (orient_of v z a)
        (λ a_up. by_lt_z (pos 0) (orient_of v z b)
        (λ b_up. clears_up a b v d x e (square (way_positive v z x (vector v a) h a_up))
        (square (way_positive v z x (vector v b) h b_up)))
        (λ b_down. absurd (not_up (omega (arith, ints, a_up)) b_down)))
        (λ a_down. by_lt_z (pos 0) (orient_of v z b)
        (λ b_up. absurd (not_down a_down (omega (arith, ints, b_up))))
        (λ b_down. by_lt_z (orient_of v z a) (pos 0)
        (λ a_under. by_lt_z (orient_of v z b) (pos 0)
        (λ b_under. clears_down a b v d x e (square (under a a_under)) (square (under b b_under)))
        (λ b_on. absurd (not_down a_down b_on)))
        (λ a_on. absurd (not_up a_on b_down))))
      where
        under : (c : Point) → orient_of v z c <ℤ pos 0 → pos 0 <ℤ orient_of x v c
        under c low =
            let s = exchanged (vector v z) (vector v c) in
            let w = way_negative v z x (vector v c) h (omega (arith, ints, s, low)) in
            let t = exchanged (vector v x) (vector v c) in
            let o = orient_of_first_exchanged v x c in
            omega (arith, ints, w, t, o)

    in_line : orient_of a b v ≡ pos 0 → orient_of a b z ≡ pos 0 → Clears a b v d x e
    in_line v_on z_on =
        let x_on = height_none v z x (record { a = a; b = b }) h v_on z_on in
        let from = height_from a b v z in
        let par : cross_of (vector a b) (vector v z) ≡ pos 0 = omega (arith, ints, from, v_on, z_on) in
        let o_x = orient_of_first_exchanged a b x in
        let o_v = orient_of_first_exchanged a b v in
        let swap = exchanged (vector a b) (vector v z) in
        let back : cross_of (vector b a) (vector v z) ≡ neg_ℤ (cross_of (vector a b) (vector v z)) = cross_back
        (vector v z) a b in
        let swap_back = exchanged (vector b a) (vector v z) in
        let back_d = cross_back d a b in
        by_lt_z (pos 0) (cross_of (vector a b) d)
        (λ d_up. clears_left a b v d x e (linear v_on d_up)
        (linear x_on (same_way (vector v z) (vector a b) d e (omega (arith, ints, swap, par))
        (omega (arith, ints, left)) d_up left_too)))
        (λ d_down. by_lt_z (cross_of (vector a b) d) (pos 0)
        (λ d_under. let d_back : pos 0 <ℤ cross_of (vector b a) d = omega (arith, ints, back_d, d_under) in
        clears_right a b v d x e (linear (omega (arith, ints, o_v, v_on)) d_back)
        (linear (omega (arith, ints, o_x, x_on)) (same_way (vector v z) (vector b a) d e
        (omega (arith, ints, swap_back, back, par)) (omega (arith, ints, left)) d_back left_too)))
        (λ d_on. absurd (real (omega (arith, ints, d_on, d_down)) par)))

-- ---- round a corner, from a direction left of both walls to one in the cone

-- the wall before the corner, where e is left of it
pub turns_before : (u v d e : Point) → pos 0 <ℤ cross_of (vector u v) d → pos 0 <ℤ cross_of (vector u v) e
    → Clears u v v d v e
turns_before u v d e h k = clears_left u v v d v e (linear (at_end u v) h) (linear (at_end u v) k)

-- and after it
pub turns_after : (v z d e : Point) → pos 0 <ℤ cross_of (vector v z) d → pos 0 <ℤ cross_of (vector v z) e
    → Clears v z v d v e
turns_after v z d e h k = clears_left v z v d v e (linear (at_start v z) h) (linear (at_start v z) k)

-- the wall before the corner, where e is right of d, and not left of that wall
pub turns_past_before : (u v d e : Point) → pos 0 <ℤ cross_of (vector u v) d → cross_of (vector u v) e ≤ℤ pos 0
    → pos 0 <ℤ cross_of e d → Clears u v v d v e
turns_past_before u v d e h k right =
    clears_down u v v d v e (linear (at_both v u) lin) (constant (at_both v v) lin_v right)
  where
    lin : pos 0 <ℤ line_linear v e v d u
    lin =
        let a = minus_cross e d (vector v u) in
        let b = none_cross e v in
        let c = back_cross d u v in
        let f = back_cross e u v in
        let g = exchanged (vector u v) d in
        let i = exchanged (vector u v) e in
        omega (arith, ints, a, b, c, f, g, i, h, k)

    lin_v : line_linear v e v d v ≡ pos 0
    lin_v = let a = cross_none (vector e d) v in let b = none_cross e v in omega (arith, ints, a, b)

-- the wall after it, where e is left of d, and not left of that wall
pub turns_past_after : (v z d e : Point) → pos 0 <ℤ cross_of (vector v z) d → cross_of (vector v z) e ≤ℤ pos 0
    → pos 0 <ℤ cross_of d e → Clears v z v d v e
turns_past_after v z d e h k left =
    clears_up v z v d v e (constant (at_both v v) lin_v left) (linear (at_both v z) lin)
  where
    lin_v : line_linear v d v e v ≡ pos 0
    lin_v = let a = cross_none (vector d e) v in let b = none_cross d v in omega (arith, ints, a, b)

    lin : pos 0 <ℤ line_linear v d v e z
    lin =
        let a = minus_cross d e (vector v z) in
        let b = none_cross d v in
        let c = exchanged (vector v z) d in
        let f = exchanged (vector v z) e in
        omega (arith, ints, a, b, c, f, h, k)

-- of two walls and a direction d left of both: where the corner doesn't turn left, a direction left of the second
-- wall alone is right of d
pub right_of_inward : (before after d e : Point) → cross_of before after ≤ℤ pos 0 → pos 0 <ℤ cross_of before d
    → pos 0 <ℤ cross_of after d → cross_of before e ≤ℤ pos 0 → pos 0 <ℤ cross_of after e
    → pos 0 <ℤ cross_of e d
right_of_inward before after d e turn bd ad be ae =
    let all = four before after d e in
    let first = positive_product (cross_of before d) (cross_of after e) bd ae in
    let second = opposite_product (cross_of before e) (cross_of after d) be (omega (arith, ints, ad)) in
    let swap = exchanged d e in
    by_lt_z (pos 0) (cross_of e d) (λ p. p)
    (λ q. let third = opposite_product (cross_of before after) (cross_of d e) turn (omega (arith, ints, swap, q)) in
    absurd (omega (arith, ints, all, first, second, third)))

-- and a direction left of the first wall alone is left of d
pub left_of_inward : (before after d e : Point) → cross_of before after ≤ℤ pos 0 → pos 0 <ℤ cross_of before d
    → pos 0 <ℤ cross_of after d → pos 0 <ℤ cross_of before e → cross_of after e ≤ℤ pos 0
    → pos 0 <ℤ cross_of d e
left_of_inward before after d e turn bd ad be ae =
    let all = four before after d e in
    let first = positive_product (cross_of before e) (cross_of after d) be ad in
    let flip = product_swapped (cross_of before d) (cross_of after e) in
    let second = opposite_product (cross_of after e) (cross_of before d) ae (omega (arith, ints, bd)) in
    by_lt_z (pos 0) (cross_of d e) (λ p. p)
    (λ q. let third = not_negative_product (neg_ℤ (cross_of before after)) (neg_ℤ (cross_of d e))
    (omega (arith, ints, turn)) (omega (arith, ints, q)) in
    let f = neg_times (cross_of before after) (neg_ℤ (cross_of d e)) in
    let g = times_neg (cross_of before after) (cross_of d e) in
    absurd (omega (arith, ints, all, first, flip, second, third, f, g)))

-- A line that has a segment on one side, and another on the other side but for one end: the two touch in that end
-- alone.
--
-- An end of the second segment on the first would have a height that is a mean of two that aren't negative, and an
-- end of the first on the second one that is strictly on the right, unless it is p. Where both cross properly, the
-- heights of their common point, as a mean of the ends of either, would have different signs (`crossing_height`).
use Rattle.std.specs.Prelude.{Bool, true, false}
use Rattle.std.proofs.Common.{◌≡◌, ℤ, pos, ◌+ℤ◌, ◌-ℤ◌, ◌*ℤ◌, ◌<ℤ◌, ◌≤ℤ◌, refl, sym, ap, ◌∙◌}
use Rattle.std.proofs.Common.{subst, arith}
use Rattle.std.proofs.lemmas.Int.{ints}
use Rattle.std.proofs.lemmas.Bool.{false_from_ne_true, and_parts}
use Rattle.int_laws.proofs.Ring.{times_sum, sum_times, times_minus, minus_times, product_swapped}
use Rattle.int_laws.proofs.Ring.{product_moved}
use Rattle.int_laws.proofs.Signs.{not_negative_product, opposite_product, negative_product}
use Rattle.int_laws.proofs.Signs.{negative_factors, negative_product_both}
use Rattle.plane_spec.specs.declared.Point.{Point}
use Rattle.plane_spec.specs.declared.Segment.{Segment}
use Rattle.plane_spec.specs.Vectors.{vector, cross_of, orient_of, same_point}
use Rattle.plane_spec.specs.Segments.{is_on_segment, are_opposite, cross_properly, do_touch}
use Rattle.exact_geom.proofs.Orientation.{orient_of_first_exchanged}
use Rattle.plane_laws.proofs.Tests.{clash}
use Rattle.plane_laws.proofs.Points.Heights.{height, height_from}
use Rattle.plane_laws.proofs.Points.Between.{between, height_positive, weak_mean, on_start, on_end, same_from_test}
use Rattle.plane_laws.proofs.Segments.Touching.{line_x, line_y, changes}
use Rattle.plane_laws.proofs.Segments.Apart.{all_false, Crossing, rises, falls, crossing}

-- where (x, y) is made of (b, b') and (q, q'), so are their products with a direction
combined : (k s a ux uy x y bx by qx qy : ℤ) → k *ℤ x ≡ s *ℤ bx +ℤ a *ℤ qx → k *ℤ y ≡ s *ℤ by +ℤ a *ℤ qy
    → k *ℤ (ux *ℤ y -ℤ uy *ℤ x) ≡ s *ℤ (ux *ℤ by -ℤ uy *ℤ bx) +ℤ a *ℤ (ux *ℤ qy -ℤ uy *ℤ qx)
combined k s a ux uy x y bx by qx qy e f =
    let first = times_minus k (ux *ℤ y) (uy *ℤ x) in
    let g = sym (product_moved ux k y) ∙ ap (λ t. ux *ℤ t) f ∙ times_sum ux (s *ℤ by) (a *ℤ qy) in
    let h = sym (product_moved uy k x) ∙ ap (λ t. uy *ℤ t) e ∙ times_sum uy (s *ℤ bx) (a *ℤ qx) in
    let i = product_moved ux s by in let j = product_moved ux a qy in let l = product_moved uy s bx in
    let m = product_moved uy a qx in
    let second = times_minus s (ux *ℤ by) (uy *ℤ bx) in
    let third = times_minus a (ux *ℤ qy) (uy *ℤ qx) in
    omega (arith, ints, first, g, h, i, j, l, m, second, third)

-- the heights over the line of w at the point where the lines of a b and p q cross, by those of the ends of either
crossing_height : (w : Segment) (a b p q : Point)
    → orient_of p q b *ℤ height w a -ℤ orient_of p q a *ℤ height w b
    ≡ orient_of a b p *ℤ height w q -ℤ orient_of a b q *ℤ height w p
crossing_height w a b p q =
    by_parts (orient_of p q a) (orient_of p q b) (orient_of a b p) (orient_of a b q)
    (cross_of (vector p q) (vector a b)) (height w a) (height w b) (height w p) (height w q) (cross_of u (vector p a))
    (cross_of u (vector a b)) (cross_of u (vector p q))
    (height_from p q a b) (changes a b p q) (height_from w.a w.b p a) (height_from w.a w.b a b)
    (height_from w.a w.b p q)
    (combined (cross_of (vector p q) (vector a b)) (orient_of p q a) (orient_of a b p) u.x u.y _ _ _ _ _ _
    (line_x a b p q) (line_y a b p q))
  where
    u : Point
    u = vector w.a w.b

    by_parts : (ta tb sp sq k ha hb hp hq pa ab pq : ℤ) → tb ≡ ta +ℤ k → sp -ℤ sq ≡ tb -ℤ ta → ha ≡ hp +ℤ pa
        → hb ≡ ha +ℤ ab → hq ≡ hp +ℤ pq → k *ℤ pa ≡ ta *ℤ ab +ℤ sp *ℤ pq
        → tb *ℤ ha -ℤ ta *ℤ hb ≡ sp *ℤ hq -ℤ sq *ℤ hp
    by_parts ta tb sp sq k ha hb hp hq pa ab pq e f g h i j =
        let a = ap (λ t. t *ℤ ha) e ∙ sum_times ta k ha in
        let b = ap (λ t. k *ℤ t) g ∙ times_sum k hp pa in
        let c = ap (λ t. ta *ℤ t) h ∙ times_sum ta ha ab in
        let d = ap (λ t. sp *ℤ t) i ∙ times_sum sp hp pq in
        let sq_is : sq ≡ sp -ℤ k = omega (arith, ints, e, f) in
        let l = ap (λ t. t *ℤ hp) sq_is ∙ minus_times sp k hp in
        omega (arith, ints, a, b, c, d, l, j)

-- the point where they cross would be on w's left or on its line, and strictly on its right
never_crossing : (w f : Segment) (p q : Point) → pos 0 ≤ℤ height w f.a → pos 0 ≤ℤ height w f.b → height w p ≤ℤ pos 0
    → height w q <ℤ pos 0
    → cross_properly f.a f.b p q ≡ true → ⊥
unfolding cross_properly
never_crossing w f p q a_left b_left p_right q_right c =
    let parts = and_parts (are_opposite (orient_of f.a f.b p) (orient_of f.a f.b q))
    (are_opposite (orient_of p q f.a) (orient_of p q f.b)) c in
    by_sides (crossing (orient_of f.a f.b p) (orient_of f.a f.b q) parts.0)
    (crossing (orient_of p q f.a) (orient_of p q f.b) parts.1)
  where
    here : orient_of p q f.b *ℤ height w f.a -ℤ orient_of p q f.a *ℤ height w f.b
        ≡ orient_of f.a f.b p *ℤ height w q -ℤ orient_of f.a f.b q *ℤ height w p
    here = crossing_height w f.a f.b p q

    change : orient_of f.a f.b p -ℤ orient_of f.a f.b q ≡ orient_of p q f.b -ℤ orient_of p q f.a
    change = changes f.a f.b p q

    by_sides : Crossing (orient_of f.a f.b p) (orient_of f.a f.b q) → Crossing (orient_of p q f.a) (orient_of p q f.b)
        → ⊥
    by_sides (rises a b) (rises i j) = absurd (omega (arith, ints, change, a, b, i, j))
    by_sides (falls a b) (falls i j) = absurd (omega (arith, ints, change, a, b, i, j))
    by_sides (rises a b) (falls i j) =
        let first = opposite_product (orient_of p q f.b) (height w f.a) (omega (arith, ints, j)) a_left in
        let second = not_negative_product (orient_of p q f.a) (height w f.b) (omega (arith, ints, i)) b_left in
        let third = negative_product_both (orient_of f.a f.b p) (height w q) a q_right in
        let turn = product_swapped (orient_of f.a f.b q) (height w p) in
        let fourth = opposite_product (height w p) (orient_of f.a f.b q) p_right (omega (arith, ints, b)) in
        let e = here in
        absurd (omega (arith, ints, e, first, second, third, turn, fourth))
    by_sides (falls a b) (rises i j) =
        let first = not_negative_product (orient_of p q f.b) (height w f.a) (omega (arith, ints, j)) a_left in
        let second = opposite_product (orient_of p q f.a) (height w f.b) (omega (arith, ints, i)) b_left in
        let turn = product_swapped (orient_of f.a f.b p) (height w q) in
        let third = negative_product (height w q) (orient_of f.a f.b p) q_right a in
        let fourth = negative_factors (orient_of f.a f.b q) (height w p) (omega (arith, ints, b)) p_right in
        let e = here in
        absurd (omega (arith, ints, e, first, second, third, turn, fourth))

-- ---- the law

-- w has both ends of f on its line or on its left, q on its right, and p not on its left; so f and the segment from p
-- to q touch in p alone
pub separated : (w f : Segment) (p q : Point) → same_point f.a f.b ≡ false → pos 0 ≤ℤ height w f.a
    → pos 0 ≤ℤ height w f.b → height w p ≤ℤ pos 0 → height w q <ℤ pos 0
    → is_on_segment p f.a f.b ≡ false → do_touch f.a f.b p q ≡ false
unfolding do_touch
separated w f p q real a_left b_left p_right q_right p_off =
    all_false (cross_properly f.a f.b p q) (is_on_segment p f.a f.b) (is_on_segment q f.a f.b) (is_on_segment f.a p q)
    (is_on_segment f.b p q)
    not_crossing p_off
    (false_from_ne_true (is_on_segment q f.a f.b) (λ on. let m = weak_mean f.a f.b q w real
    (between q f.a f.b on) a_left b_left in absurd (omega (arith, ints, m, q_right))))
    (false_from_ne_true (is_on_segment f.a p q) (λ on. end_off f.a a_left (on_start f.a f.b) on))
    (false_from_ne_true (is_on_segment f.b p q) (λ on. end_off f.b b_left (on_end f.a f.b) on))
  where
    not_crossing : cross_properly f.a f.b p q ≡ false
    not_crossing =
        false_from_ne_true (cross_properly f.a f.b p q) (λ c. never_crossing w f p q a_left b_left p_right q_right c)

    -- an end of f between p and q is p, since all further on is strictly right of w
    end_off : (v : Point) → pos 0 ≤ℤ height w v → is_on_segment v f.a f.b ≡ true → is_on_segment v p q ≡ true → ⊥
    end_off v left on_f on = by_test (same_point v p) refl
      where
        by_test : (t : Bool) → same_point v p ≡ t → ⊥
        by_test true same =
            clash p_off (subst (λ t. is_on_segment t f.a f.b ≡ true) (sym (same_from_test v p same)) on_f)
        by_test false apart =
            let h = height_positive p q v (record { a = w.b; b = w.a })
            (record { between = between v p q on; apart = apart })
            (let o = orient_of_first_exchanged w.a w.b p in omega (arith, ints, o, p_right))
            (let o = orient_of_first_exchanged w.a w.b q in omega (arith, ints, o, q_right)) in
            let o = orient_of_first_exchanged w.a w.b v in
            absurd (omega (arith, ints, h, o, left))

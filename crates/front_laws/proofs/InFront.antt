-- Which of two blockers is in front.
--
-- Let d span v and w. The hit of v comes before that of w exactly where a certain difference of products is positive:
-- the spread of w times the width of v before d, less the spread of v times the width of w. That difference is a sum
-- of the sides on which the ends of v lie from w, weighted by how far d is from either end (`sides_are`, by the
-- identity of four directions), and so with v and w exchanged. The weights are positive, since d spans both. So where
-- both ends of v are on one side of w, or one of them on its line, that side decides. Else the ends of v are on
-- different sides, so those of w aren't, as the two are apart; then the sides of w's ends decide, the other way round.
-- That not both ends lie on the line of the other is the second half of apartness; it keeps the sum from being 0.
use Rattle.std.proofs.Common.{◌≡◌, ℤ, ◌+ℤ◌, ◌-ℤ◌, ◌*ℤ◌, neg_ℤ, ◌<ℤ◌, ◌≤ℤ◌, ◌∙◌, arith, ap, pos}
use Rattle.std.proofs.lemmas.Int.{ints, by_lt_z}
use Rattle.std.specs.Ordering.{int_eq}
use Rattle.std.specs.Prelude.{if◌then◌else◌, ◌&&◌, ◌||◌, Bool, not, int_lt, true, false}
use Rattle.plane_spec.specs.Fractions.{is_before}
use Rattle.plane_spec.specs.Segments.{are_opposite}
use Rattle.plane_spec.specs.Vectors.{cross_of}
use Rattle.plane_spec.specs.declared.Point.{Point}
use Rattle.int_laws.proofs.Ring.{cross_of_four, times_minus, times_sum, neg_times, product_swapped}
use Rattle.int_laws.proofs.Signs.{tested_positive}
use Rattle.exact_geom.proofs.Turns.{cross_of_exchanged}
use Rattle.front_laws.proofs.Tests.{by_cases, both_of}
use Rattle.front_laws.proofs.Weights.{weighted_up, weighted_up_first, weighted_down, weighted_down_first}
use Rattle.front_laws.specs.Seen.{Seen, side_of, spans, hit_of, is_in_front, are_apart}

pub four_of : (a b c d : Point) → cross_of a b *ℤ cross_of c d +ℤ cross_of a d *ℤ cross_of b c
    ≡ cross_of a c *ℤ cross_of b d
four_of a b c d = cross_of_four a.x a.y b.x b.y c.x c.y d.x d.y

-- the sides of a blocker's ends, weighted by the ray, are what the two hits differ by
pub sides_weighted : (se ec sc ef sf cf sd de cd df : ℤ) →
    cd *ℤ ef +ℤ cf *ℤ de ≡ neg_ℤ (df *ℤ ec) →
    df *ℤ sc +ℤ cd *ℤ sf ≡ cf *ℤ sd →
    df *ℤ (se +ℤ ec -ℤ sc) +ℤ cd *ℤ (se +ℤ ef -ℤ sf) ≡ se *ℤ (df +ℤ cd) -ℤ cf *ℤ (de +ℤ sd)
sides_weighted se ec sc ef sf cf sd de cd df h k =
    let a = times_minus df (se +ℤ ec) sc in
    let b = times_sum df se ec in
    let c = times_minus cd (se +ℤ ef) sf in
    let d = times_sum cd se ef in
    let e = times_sum se df cd in
    let f = times_sum cf de sd in
    omega (arith, ints, a, b, c, d, e, f, h, k)

flipped_product : (cd ef cf de ce df ec : ℤ) → ce ≡ neg_ℤ ec → cd *ℤ ef +ℤ cf *ℤ de ≡ ce *ℤ df → cd *ℤ ef +ℤ cf *ℤ de
    ≡ neg_ℤ (df *ℤ ec)
flipped_product cd ef cf de ce df ec e h = h ∙ ap (λ t. t *ℤ df) e ∙ neg_times ec df ∙ ap neg_ℤ (product_swapped ec df)

swapped_products : (sc df sf cd sd cf : ℤ) → sc *ℤ df +ℤ sf *ℤ cd ≡ sd *ℤ cf → df *ℤ sc +ℤ cd *ℤ sf ≡ cf *ℤ sd
swapped_products sc df sf cd sd cf h = omega (arith, ints, h)

-- how far the hits on v and w are apart, by the sides of the ends of v
pub sides_are : (d : Point) (v w : Seen) →
    cross_of d v.to *ℤ side_of w v.from +ℤ cross_of v.from d *ℤ side_of w v.to
    ≡ cross_of w.from w.to *ℤ (cross_of d v.to +ℤ cross_of v.from d) -ℤ cross_of v.from
    v.to *ℤ (cross_of d w.to +ℤ cross_of w.from d)
sides_are d v w =
    sides_weighted (cross_of w.from w.to) (cross_of w.to v.from) (cross_of w.from v.from) (cross_of w.to v.to)
    (cross_of w.from v.to)
    (cross_of v.from v.to) (cross_of w.from d) (cross_of d w.to) (cross_of v.from d) (cross_of d v.to)
    (flipped_product (cross_of v.from d) (cross_of w.to v.to) (cross_of v.from v.to) (cross_of d w.to)
    (cross_of v.from w.to) (cross_of d v.to) (cross_of w.to v.from)
    (cross_of_exchanged w.to v.from) (four_of v.from d w.to v.to))
    (swapped_products (cross_of w.from v.from) (cross_of d v.to) (cross_of w.from v.to) (cross_of v.from d)
    (cross_of w.from d) (cross_of v.from v.to)
    (four_of w.from v.from d v.to))

-- the sides of one blocker's ends differ as those of the other's do
differ : (se ec sc ef sf cf fe ce fs cs : ℤ) → fe ≡ neg_ℤ ef → ce ≡ neg_ℤ ec → fs ≡ neg_ℤ sf → cs ≡ neg_ℤ sc →
    (se +ℤ ef -ℤ sf) -ℤ (se +ℤ ec -ℤ sc) ≡ (cf +ℤ fs -ℤ cs) -ℤ (cf +ℤ fe -ℤ ce)
differ se ec sc ef sf cf fe ce fs cs a b c d = omega (arith, ints, a, b, c, d)

pub sides_differ : (v w : Seen) → side_of w v.to -ℤ side_of w v.from ≡ side_of v w.from -ℤ side_of v w.to
sides_differ v w =
    differ (cross_of w.from w.to) (cross_of w.to v.from) (cross_of w.from v.from) (cross_of w.to v.to)
    (cross_of w.from v.to) (cross_of v.from v.to)
    (cross_of v.to w.to) (cross_of v.from w.to) (cross_of v.to w.from) (cross_of v.from w.from)
    (cross_of_exchanged w.to v.to) (cross_of_exchanged w.to v.from) (cross_of_exchanged w.from v.to)
    (cross_of_exchanged w.from v.from)

-- the answer by sides, where x and y are the sides of the first's ends and z and u those of the second's
abbrev pub by_sides : ℤ → ℤ → ℤ → ℤ → Bool
by_sides x y z u =
    if are_opposite x y
    then not (int_lt (pos 0) z || int_lt (pos 0) u)
    else (int_lt (pos 0) x || int_lt (pos 0) y)

abbrev pub apart_by : ℤ → ℤ → ℤ → ℤ → Bool
apart_by x y z u = not (are_opposite x y && are_opposite z u) && not (int_eq x (pos 0) && int_eq y (pos 0))

one_side : (x y z u p q : ℤ) → pos 0 ≤ℤ x → pos 0 ≤ℤ y → (pos 0 <ℤ (x +ℤ y)) → q <ℤ p → by_sides x y z u ≡ int_lt q p
one_side x y z u p q a b c d = grind (arith, ints)

other_side : (x y z u p q : ℤ) → x ≤ℤ pos 0 → y ≤ℤ pos 0 → p <ℤ q → by_sides x y z u ≡ int_lt q p
other_side x y z u p q a b c = grind (arith, ints)

-- one side's ends are on different sides: then the other's aren't
crossed_up : (x y z u p q : ℤ) → are_opposite x y ≡ true → are_opposite z u ≡ false → (z ≤ℤ pos 0) → (u ≤ℤ pos 0)
    → q <ℤ p → by_sides x y z u ≡ int_lt q p
crossed_up x y z u p q a b c d e = grind (arith, ints)

crossed_down : (x y z u p q : ℤ) → are_opposite x y ≡ true → pos 0 <ℤ (z +ℤ u) → (pos 0 ≤ℤ z) → (pos 0 ≤ℤ u) → p <ℤ q
    → by_sides x y z u ≡ int_lt q p
crossed_down x y z u p q a b c d e = grind (arith, ints)

-- where the first's ends aren't on different sides
uncrossed : (x y z u a b p q : ℤ) → pos 0 <ℤ a → pos 0 <ℤ b → a *ℤ x +ℤ b *ℤ y ≡ p -ℤ q
    → are_opposite x y ≡ false → (int_eq x (pos 0) && int_eq y (pos 0)) ≡ false → by_sides x y z u ≡ int_lt q p
uncrossed x y z u a b p q a_up b_up e apart line =
    by_lt_z (pos 0) x
    (λ x_up. let y_up : pos 0 ≤ℤ y = grind (arith, ints) in
    let s = weighted_up_first a b x y a_up b_up x_up y_up in
    one_side x y z u p q (omega (arith, ints)) y_up (omega (arith, ints)) (omega (arith, ints, e, s)))
    (λ x_down. by_lt_z (pos 0) y
    (λ y_up. let x_is : pos 0 ≤ℤ x = grind (arith, ints) in
    let s = weighted_up a b x y a_up b_up x_is y_up in
    one_side x y z u p q x_is (omega (arith, ints)) (omega (arith, ints)) (omega (arith, ints, e, s)))
    (λ y_down. by_lt_z x (pos 0)
    (λ x_low. let s = weighted_down_first a b x y a_up b_up x_low y_down in
    other_side x y z u p q x_down y_down (omega (arith, ints, e, s)))
    (λ x_is. let y_low : y <ℤ pos 0 = grind (arith, ints) in
    let s = weighted_down a b x y a_up b_up x_down y_low in
    other_side x y z u p q x_down y_down (omega (arith, ints, e, s)))))

-- where they are
crossed : (x y z u a b p q : ℤ) → pos 0 <ℤ a → pos 0 <ℤ b → a *ℤ z +ℤ b *ℤ u ≡ q -ℤ p → y -ℤ x ≡ z -ℤ u
    → are_opposite x y ≡ true → are_opposite z u ≡ false → by_sides x y z u ≡ int_lt q p
crossed x y z u a b p q a_up b_up e f apart other =
    by_lt_z (pos 0) z
    (λ z_up. let u_up : pos 0 ≤ℤ u = grind (arith, ints) in
    let s = weighted_up_first a b z u a_up b_up z_up u_up in
    crossed_down x y z u p q apart (omega (arith, ints)) (omega (arith, ints)) u_up (omega (arith, ints, e, s)))
    (λ z_down. by_lt_z (pos 0) u
    (λ u_up. let z_is : pos 0 ≤ℤ z = grind (arith, ints) in
    let s = weighted_up a b z u a_up b_up z_is u_up in
    crossed_down x y z u p q apart (omega (arith, ints)) z_is (omega (arith, ints)) (omega (arith, ints, e, s)))
    (λ u_down. by_lt_z z (pos 0)
    (λ z_low. let s = weighted_down_first a b z u a_up b_up z_low u_down in
    crossed_up x y z u p q apart other z_down u_down (omega (arith, ints, e, s)))
    (λ z_is. let u_low : u <ℤ pos 0 = unequal apart f z_is z_down u_down in
    let s = weighted_down a b z u a_up b_up z_down u_low in
    crossed_up x y z u p q apart other z_down u_down (omega (arith, ints, e, s)))))
  where
    unequal : are_opposite x y ≡ true → y -ℤ x ≡ z -ℤ u → pos 0 ≤ℤ z → z ≤ℤ pos 0 → u ≤ℤ pos 0 → u <ℤ pos 0
    unequal h k z_is z_down u_down = grind (arith, ints)

-- the sides tell which hit comes first
pub sides_agree : (x y z u c f e s p q : ℤ) → pos 0 <ℤ c → pos 0 <ℤ f → pos 0 <ℤ e → pos 0 <ℤ s
    → f *ℤ x +ℤ c *ℤ y ≡ p -ℤ q → e *ℤ z +ℤ s *ℤ u ≡ q -ℤ p → y -ℤ x ≡ z -ℤ u
    → apart_by x y z u ≡ true → by_sides x y z u ≡ int_lt q p
sides_agree x y z u c f e s p q c_up f_up e_up s_up first second same apart =
    by_cases (are_opposite x y)
    (λ h. crossed x y z u e s p q e_up s_up second same h
    (other_of (are_opposite x y) (are_opposite z u) (int_eq x (pos 0) && int_eq y (pos 0)) h apart))
    (λ h. uncrossed x y z u f c p q f_up c_up first h
    (line_of (are_opposite x y && are_opposite z u) (int_eq x (pos 0) && int_eq y (pos 0)) apart))
  where
    other_of : (a b c : Bool) → a ≡ true → (not (a && b) && not c) ≡ true → b ≡ false
    other_of a b c h k = grind arith

    line_of : (a c : Bool) → (not a && not c) ≡ true → c ≡ false
    line_of a c k = grind arith

-- of two blockers that one direction spans and that are apart, the one in front has the hit that comes first
pub front_is_before : (d : Point) (v w : Seen) → spans d v ≡ true → spans d w ≡ true → are_apart v w ≡ true
    → is_in_front v w ≡ is_before (hit_of d v) (hit_of d w)
unfolding is_in_front are_apart
front_is_before d v w v_spans w_spans apart =
    let v_two = both_of (int_lt (pos 0) (cross_of v.from d)) (int_lt (pos 0) (cross_of d v.to)) v_spans in
    let w_two = both_of (int_lt (pos 0) (cross_of w.from d)) (int_lt (pos 0) (cross_of d w.to)) w_spans in
    sides_agree (side_of w v.from) (side_of w v.to) (side_of v w.from) (side_of v w.to)
    (cross_of v.from d) (cross_of d v.to) (cross_of d w.to) (cross_of w.from d)
    (cross_of w.from w.to *ℤ (cross_of d v.to +ℤ cross_of v.from d))
    (cross_of v.from v.to *ℤ (cross_of d w.to +ℤ cross_of w.from d))
    (tested_positive _ v_two.0) (tested_positive _ v_two.1) (tested_positive _ w_two.1) (tested_positive _ w_two.0)
    (sides_are d v w) (sides_are d w v) (sides_differ v w) apart

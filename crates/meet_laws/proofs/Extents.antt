-- Lines of which one lies before the other in one coordinate don't meet, told from fractions and from whole numbers.
use Rattle.std.proofs.Common.{◌≡◌, refl, sym, ap, ◌∙◌, subst, arith, ℤ, pos, neg_ℤ, ◌+ℤ◌, ◌-ℤ◌, ◌*ℤ◌, ◌≤ℤ◌, ◌<ℤ◌, Bool, true, false, ◌⊎◌, inl, inr}
use Rattle.std.specs.Prelude.{not, ◌&&◌, ◌||◌, int_lt, int_le}
use Rattle.std.proofs.lemmas.Int.{ints}
use Rattle.int_laws.proofs.Ring.{neg_times, cross_exchanged, minus_times, product_turned}
use Rattle.int_laws.proofs.Tests.{smaller_product, less_tested}
use Rattle.int_laws.proofs.Signs.{not_negative_product}
use Rattle.plane_spec.specs.declared.Point.{Point}
use Rattle.plane_spec.specs.Vectors.{vector, cross_of}
use Rattle.plane_spec.specs.Fractions.{Fraction, RPoint, is_before, is_at_least, is_at_most}
use Rattle.plane_spec.specs.RPoints.{is_between_fractions, do_rsegments_touch}
use Rattle.meet_laws.specs.Stretches.{HasValue, IsAt, is_zero_between, gap, is_in_extents, AreAllBefore}
use Rattle.meet_laws.proofs.Identities.{three_directions, three_directions_up}
use Rattle.meet_laws.proofs.Values.{before_by_value}
use Rattle.meet_laws.proofs.Signs.{IsNonzero, by_zero}
use Rattle.meet_laws.proofs.Meeting.{ahead, meeting_across}
use Rattle.meet_laws.proofs.Parallel.{meeting_aside, meeting_in_line, aside_too, in_line_too, flat_turned}
use Rattle.meet_laws.proofs.Apart.{no_meeting}

never : (x y : Bool) → (x ≡ true → y ≡ true → ⊥) → x && y ≡ false
never true true h = absurd (h refl refl)
never true false h = refl
never false y h = refl

turned_round : (c c' g x y : ℤ) → c' ≡ neg_ℤ c → c' *ℤ g ≡ neg_ℤ x -ℤ y → c *ℤ g ≡ x +ℤ y
turned_round c c' g x y back e =
    let f : c' *ℤ g ≡ neg_ℤ (c *ℤ g) = ap (λ z. z *ℤ g) back ∙ neg_times c g in
    omega (arith, ints, e, f)

tested_below : (z : ℤ) → int_lt z (pos 0) ≡ true → z <ℤ pos 0
tested_below z h = omega (arith, ints, h)

less_by : (f g : Fraction) (n m k l : ℤ) → HasValue f n m → HasValue g k l → is_before f g ≡ true
    → (n *ℤ l -ℤ k *ℤ m) <ℤ pos 0
less_by f g n m k l h i before = tested_below _ (sym (before_by_value f g n m k l h i) ∙ before)

outside : (x y z w : Bool) → x ≡ true → z ≡ true → (not x && y) || (not z && w) ≡ false
outside true y true w h i = refl
outside false y z w h i = absurd (cc)
outside true y false w h i = absurd (cc)

outside_too : (x y z w : Bool) → y ≡ true → w ≡ true → (not x && not y) || (not z && not w) ≡ false
outside_too true true true true h i = refl
outside_too true true false true h i = refl
outside_too false true true true h i = refl
outside_too false true false true h i = refl
outside_too x false z w h i = absurd (cc)
outside_too x true z false h i = absurd (cc)

not_first : (f g h : Fraction) → is_before f g ≡ true → is_before f h ≡ true → is_between_fractions f g h ≡ false
not_first f g h i j = outside (is_before f g) (not (is_before h f)) (is_before f h) (not (is_before g f)) i j

not_second : (f g h : Fraction) → is_before h f ≡ true → is_before g f ≡ true → is_between_fractions f g h ≡ false
not_second f g h i j = outside_too (is_before f g) (is_before h f) (is_before f h) (is_before g f) i j

and_false : (x : Bool) → x && false ≡ false
and_false true = refl
and_false false = refl

in_line_x : (a b c f : RPoint) → AreAllBefore a.x b.x c.x f.x
    → ((is_in_extents a c f || is_in_extents b c f) || (is_in_extents c a b || is_in_extents f a b)) ≡ false
in_line_x a b c f h =
    rw (
      not_first a.x c.x f.x h.first_third h.first_fourth,
      not_first b.x c.x f.x h.second_third h.second_fourth,
      not_second c.x a.x b.x h.second_third h.first_third,
      not_second f.x a.x b.x h.second_fourth h.first_fourth,
    ) refl

in_line_y : (a b c f : RPoint) → AreAllBefore a.y b.y c.y f.y
    → ((is_in_extents a c f || is_in_extents b c f) || (is_in_extents c a b || is_in_extents f a b)) ≡ false
in_line_y a b c f h =
    rw (
      not_first a.y c.y f.y h.first_third h.first_fourth,
      not_first b.y c.y f.y h.second_third h.second_fourth,
      not_second c.y a.y b.y h.second_third h.first_third,
      not_second f.y a.y b.y h.second_fourth h.first_fourth,
      and_false (is_between_fractions a.x c.x f.x),
      and_false (is_between_fractions b.x c.x f.x),
      and_false (is_between_fractions c.x a.x b.x),
      and_false (is_between_fractions f.x a.x b.x),
    ) refl

-- ---- by whole numbers

at_most_product : (x y d : ℤ) → pos 1 ≤ℤ d → x ≤ℤ y → (x *ℤ d) ≤ℤ (y *ℤ d)
at_most_product x y d up h =
    let e = not_negative_product (y -ℤ x) d (omega (arith, ints)) (omega (arith, ints)) in
    let f = minus_times y x d in
    omega (arith, ints, e, f)

-- a fraction at most z is less than one that is at least a greater number
pub before_by_whole : (f g : Fraction) (z w : ℤ) → pos 1 ≤ℤ f.den → pos 1 ≤ℤ g.den → is_at_most f z ≡ true
    → is_at_least g w ≡ true → z <ℤ w → is_before f g ≡ true
before_by_whole f g z w f_up g_up low high less =
    less_tested (f.num *ℤ g.den) (g.num *ℤ f.den)
    (let a = at_most_product f.num (z *ℤ f.den) g.den g_up (tested _ _ low) in
    let b = at_most_product (w *ℤ g.den) g.num f.den f_up (tested _ _ high) in
    let s = smaller_product (z *ℤ f.den) (w *ℤ f.den) g.den g_up (smaller_product z w f.den f_up less) in
    let t = product_turned w g.den f.den in
    omega (arith, ints, a, b, s, t))
  where
    tested : (x y : ℤ) → int_le x y ≡ true → x ≤ℤ y
    tested x y h = omega (arith, ints, h)

-- ---- in x

across_x : (a b c f : RPoint) (p d q e : Point) (n1 m1 n2 m2 n3 m3 n4 m4 : ℤ)
    → IsAt a p d n1 m1 → IsAt b p d n2 m2 → IsAt c q e n3 m3 → IsAt f q e n4 m4 → IsNonzero (cross_of d e)
    → AreAllBefore a.x b.x c.x f.x
    → is_zero_between (ahead p d q e n1 m1) (ahead p d q e n2 m2) ≡ true
    → is_zero_between (ahead q e p d n3 m3) (ahead q e p d n4 m4) ≡ true → ⊥
across_x a b c f p d q e n1 m1 n2 m2 n3 m3 n4 m4 at_a at_b at_c at_f some before first second =
    let back = cross_exchanged d.x d.y e.x e.y in
    let turns = turned_round (cross_of d e) (cross_of e d) (q.x -ℤ p.x) (cross_of (vector p q) e
    *ℤ d.x) (cross_of (vector q p) d *ℤ e.x) back
    (three_directions p.x p.y q.x q.y d.x d.y e.x e.y) in
    let second' = subst (λ z. is_zero_between (cross_of (vector q p) d *ℤ m3 -ℤ n3 *ℤ z) (cross_of (vector q p) d
    *ℤ m4 -ℤ n4 *ℤ z) ≡ true) back second in
    no_meeting (cross_of d e) (cross_of (vector p q) e) (cross_of (vector q p) d) p.x q.x d.x e.x n1 m1 n2 m2 n3 m3 n4
    m4
    some turns at_a.x.over at_b.x.over at_c.x.over at_f.x.over first second'
    (less_by a.x c.x _ _ _ _ at_a.x at_c.x before.first_third)
    (less_by a.x f.x _ _ _ _ at_a.x at_f.x before.first_fourth)
    (less_by b.x c.x _ _ _ _ at_b.x at_c.x before.second_third)
    (less_by b.x f.x _ _ _ _ at_b.x at_f.x before.second_fourth)

-- lines of which the first lies before the second in x don't meet
pub apart_in_x : (a b c f : RPoint) (p d q e : Point) (n1 m1 n2 m2 n3 m3 n4 m4 : ℤ)
    → IsAt a p d n1 m1 → IsAt b p d n2 m2 → IsAt c q e n3 m3 → IsAt f q e n4 m4
    → pos 1 ≤ℤ gap n1 m1 n2 m2 → pos 1 ≤ℤ gap n3 m3 n4 m4 → IsNonzero d.x ⊎ IsNonzero d.y
    → IsNonzero e.x ⊎ IsNonzero e.y
    → AreAllBefore a.x b.x c.x f.x → do_rsegments_touch a b c f ≡ false
apart_in_x a b c f p d q e n1 m1 n2 m2 n3 m3 n4 m4 at_a at_b at_c at_f up up' directed directed' before =
    by (by_zero (cross_of d e)) (by_zero (cross_of (vector q p) d))
  where
    by : (cross_of d e ≡ pos 0) ⊎ IsNonzero (cross_of d e)
        → (cross_of (vector q p) d ≡ pos 0) ⊎ IsNonzero (cross_of (vector q p) d) → do_rsegments_touch a b c f ≡ false
    by (inr some) other =
        meeting_across a b c f p d q e n1 m1 n2 m2 n3 m3 n4 m4 at_a at_b at_c at_f some up up'
        ∙ never (is_zero_between (ahead p d q e n1 m1) (ahead p d q e n2 m2))
        (is_zero_between (ahead q e p d n3 m3) (ahead q e p d n4 m4))
        (λ h i. across_x a b c f p d q e n1 m1 n2 m2 n3 m3 n4 m4 at_a at_b at_c at_f some before h i)
    by (inl flat) (inr some) =
        meeting_aside a b c f p d q e n1 m1 n2 m2 n3 m3 n4 m4 at_a at_b at_c at_f flat up up' some
        (aside_too p q d e flat directed' some)
    by (inl flat) (inl line) =
        meeting_in_line a b c f p d q e n1 m1 n2 m2 n3 m3 n4 m4 at_a at_b at_c at_f flat up up' line
        (in_line_too p q d e (flat_turned d e flat) directed line)
        ∙ in_line_x a b c f before

-- ---- in y

across_y : (a b c f : RPoint) (p d q e : Point) (n1 m1 n2 m2 n3 m3 n4 m4 : ℤ)
    → IsAt a p d n1 m1 → IsAt b p d n2 m2 → IsAt c q e n3 m3 → IsAt f q e n4 m4 → IsNonzero (cross_of d e)
    → AreAllBefore a.y b.y c.y f.y
    → is_zero_between (ahead p d q e n1 m1) (ahead p d q e n2 m2) ≡ true
    → is_zero_between (ahead q e p d n3 m3) (ahead q e p d n4 m4) ≡ true → ⊥
across_y a b c f p d q e n1 m1 n2 m2 n3 m3 n4 m4 at_a at_b at_c at_f some before first second =
    let back = cross_exchanged d.x d.y e.x e.y in
    let turns = turned_round (cross_of d e) (cross_of e d) (q.y -ℤ p.y) (cross_of (vector p q) e
    *ℤ d.y) (cross_of (vector q p) d *ℤ e.y) back
    (three_directions_up p.x p.y q.x q.y d.x d.y e.x e.y) in
    let second' = subst (λ z. is_zero_between (cross_of (vector q p) d *ℤ m3 -ℤ n3 *ℤ z) (cross_of (vector q p) d
    *ℤ m4 -ℤ n4 *ℤ z) ≡ true) back second in
    no_meeting (cross_of d e) (cross_of (vector p q) e) (cross_of (vector q p) d) p.y q.y d.y e.y n1 m1 n2 m2 n3 m3 n4
    m4
    some turns at_a.y.over at_b.y.over at_c.y.over at_f.y.over first second'
    (less_by a.y c.y _ _ _ _ at_a.y at_c.y before.first_third)
    (less_by a.y f.y _ _ _ _ at_a.y at_f.y before.first_fourth)
    (less_by b.y c.y _ _ _ _ at_b.y at_c.y before.second_third)
    (less_by b.y f.y _ _ _ _ at_b.y at_f.y before.second_fourth)

-- lines of which the first lies before the second in y don't meet
pub apart_in_y : (a b c f : RPoint) (p d q e : Point) (n1 m1 n2 m2 n3 m3 n4 m4 : ℤ)
    → IsAt a p d n1 m1 → IsAt b p d n2 m2 → IsAt c q e n3 m3 → IsAt f q e n4 m4
    → pos 1 ≤ℤ gap n1 m1 n2 m2 → pos 1 ≤ℤ gap n3 m3 n4 m4 → IsNonzero d.x ⊎ IsNonzero d.y
    → IsNonzero e.x ⊎ IsNonzero e.y
    → AreAllBefore a.y b.y c.y f.y → do_rsegments_touch a b c f ≡ false
apart_in_y a b c f p d q e n1 m1 n2 m2 n3 m3 n4 m4 at_a at_b at_c at_f up up' directed directed' before =
    by (by_zero (cross_of d e)) (by_zero (cross_of (vector q p) d))
  where
    by : (cross_of d e ≡ pos 0) ⊎ IsNonzero (cross_of d e)
        → (cross_of (vector q p) d ≡ pos 0) ⊎ IsNonzero (cross_of (vector q p) d) → do_rsegments_touch a b c f ≡ false
    by (inr some) other =
        meeting_across a b c f p d q e n1 m1 n2 m2 n3 m3 n4 m4 at_a at_b at_c at_f some up up'
        ∙ never (is_zero_between (ahead p d q e n1 m1) (ahead p d q e n2 m2))
        (is_zero_between (ahead q e p d n3 m3) (ahead q e p d n4 m4))
        (λ h i. across_y a b c f p d q e n1 m1 n2 m2 n3 m3 n4 m4 at_a at_b at_c at_f some before h i)
    by (inl flat) (inr some) =
        meeting_aside a b c f p d q e n1 m1 n2 m2 n3 m3 n4 m4 at_a at_b at_c at_f flat up up' some
        (aside_too p q d e flat directed' some)
    by (inl flat) (inl line) =
        meeting_in_line a b c f p d q e n1 m1 n2 m2 n3 m3 n4 m4 at_a at_b at_c at_f flat up up' line
        (in_line_too p q d e (flat_turned d e flat) directed line)
        ∙ in_line_y a b c f before

-- When two segments don't touch: one is strictly on one side of the other's line, or they lie apart in a coordinate.
use Rattle.plane_spec.proofs.Laws.{touching_is_symmetric}
use Rattle.std.specs.Prelude.{true, false, ◌&&◌, Bool, ◌||◌}
use Rattle.std.specs.Ordering.{int_eq}
use Rattle.std.proofs.Common.{arith, inl, inr, pos, ℤ, ◌≡◌, ◌⊎◌, ◌*ℤ◌, ◌<ℤ◌, ◌≤ℤ◌, ◌-ℤ◌, ap, sym, ◌∙◌, refl, subst}
use Rattle.std.proofs.Common.{neg_ℤ, ◌+ℤ◌}
use Rattle.std.proofs.lemmas.Int.{ints, by_lt_z}
use Rattle.std.proofs.lemmas.Bool.{false_from_ne_true, and_parts}
use Rattle.int_laws.proofs.Signs.{not_negative_product, opposite_product, zero_factor, negative_product}
use Rattle.int_laws.proofs.Signs.{positive_product}
use Rattle.int_laws.proofs.Ring.{product_swapped, cross_across, cross_of_three, times_zero, zero_times, chained}
use Rattle.int_laws.proofs.Ring.{minus_times, sum_times, times_neg, times_sum}
use Rattle.plane_spec.specs.declared.Point.{Point}
use Rattle.plane_spec.specs.Segments.{is_between, is_on_segment, are_opposite, cross_properly, do_touch}
use Rattle.plane_spec.specs.Vectors.{cross_of, orient_of, vector}
use Rattle.exact_geom.proofs.Orientation.{orient_of_cycled, orient_of_first_exchanged}
use Rattle.plane_laws.proofs.Points.Between.{in_order, IsBetween, between}
use Rattle.plane_laws.proofs.Segments.Touching.{touch_turned, changes, line_x, line_y}
use Rattle.plane_laws.proofs.Points.Heights.{height_from}

-- ---- one coordinate

-- products that are equal, of positive numbers with numbers of different sign, are of 0
level_by : (s t x y : ℤ) → pos 0 <ℤ s → pos 0 <ℤ t → s *ℤ y ≡ t *ℤ x
    → ((x ≤ℤ pos 0) × (pos 0 ≤ℤ y)) ⊎ ((pos 0 ≤ℤ x) × (y ≤ℤ pos 0)) → x ≡ pos 0
level_by s t x y hs ht e (inl h) =
    let up = not_negative_product s y (omega (arith, ints, hs)) h.1 in
    let turn = product_swapped t x in
    let down = opposite_product x t h.0 (omega (arith, ints, ht)) in
    zero_factor x t (omega (arith, ints, e, up, turn, down)) ht
level_by s t x y hs ht e (inr h) =
    let turn_y = product_swapped s y in
    let down = opposite_product y s h.1 (omega (arith, ints, hs)) in
    let turn = product_swapped t x in
    let up = not_negative_product t x (omega (arith, ints, ht)) h.0 in
    zero_factor x t (omega (arith, ints, e, up, turn, down, turn_y)) ht

-- m is between p and q: they lie on different sides of it
sides_of : (m p q : ℤ) → is_between m p q ≡ true → (((p -ℤ m) ≤ℤ pos 0) × (pos 0 ≤ℤ (q -ℤ m)))
    ⊎ ((pos 0 ≤ℤ (p -ℤ m)) × ((q -ℤ m) ≤ℤ pos 0))
sides_of m p q h = elim (in_order m p q h) [
  | inl k ↦ inl (omega (arith, ints, k.0), omega (arith, ints, k.1))
  | inr k ↦ inr (omega (arith, ints, k.1), omega (arith, ints, k.0))
]

turned_cross : (a b c : Point) → orient_of b c a ≡ cross_of (vector a b) (vector a c)
turned_cross a b c = orient_of_cycled a b c

-- a point from which two others lie strictly to the left of a direction isn't between them
pub not_between : (u c p q : Point) → pos 0 <ℤ cross_of u (vector c p) → pos 0 <ℤ cross_of u (vector c q)
    → is_on_segment c p q ≡ false
not_between u c p q sp sq = false_from_ne_true (is_on_segment c p q) (λ on. never (between c p q on))
  where
    never : IsBetween c p q → ⊥
    never h =
        let line : cross_of (vector c p) (vector c q) ≡ pos 0 = sym (turned_cross c p q) ∙ h.line in
        let first = cross_across u.x u.y (p.x -ℤ c.x) (p.y -ℤ c.y) (q.x -ℤ c.x) (q.y -ℤ c.y) in
        let second = cross_of_three u.x u.y (p.x -ℤ c.x) (p.y -ℤ c.y) (q.x -ℤ c.x) (q.y -ℤ c.y) in
        let none_x : cross_of (vector c p) (vector c q) *ℤ u.x ≡ pos 0 = ap (λ t. t *ℤ u.x) line ∙ zero_times u.x in
        let none_y : cross_of (vector c p) (vector c q) *ℤ u.y ≡ pos 0 = ap (λ t. t *ℤ u.y) line ∙ zero_times u.y in
        let x_is = level_by (cross_of u (vector c q)) (cross_of u (vector c p)) (q.x -ℤ c.x) (p.x -ℤ c.x) sq sp
        (omega (arith, ints, first, none_x)) (flipped (sides_of c.x p.x q.x h.x)) in
        let y_is = level_by (cross_of u (vector c q)) (cross_of u (vector c p)) (q.y -ℤ c.y) (p.y -ℤ c.y) sq sp
        (omega (arith, ints, second, none_y)) (flipped (sides_of c.y p.y q.y h.y)) in
        let a = ap (λ t. u.x *ℤ t) y_is ∙ times_zero u.x in
        let b = ap (λ t. u.y *ℤ t) x_is ∙ times_zero u.y in
        absurd (omega (arith, ints, a, b, sq))
      where
        flipped : {x y : ℤ} → ((x ≤ℤ pos 0) × (pos 0 ≤ℤ y)) ⊎ ((pos 0 ≤ℤ x) × (y ≤ℤ pos 0))
            → ((y ≤ℤ pos 0) × (pos 0 ≤ℤ x)) ⊎ ((pos 0 ≤ℤ y) × (x ≤ℤ pos 0))
        flipped (inl k) = inr (k.1, k.0)
        flipped (inr k) = inl (k.1, k.0)

-- ---- to the left

not_opposite : (s t : ℤ) → pos 0 <ℤ s → pos 0 <ℤ t → are_opposite s t ≡ false
not_opposite s t h k = grind (arith, ints)

not_equal : (s : ℤ) → pos 0 <ℤ s → int_eq s (pos 0) ≡ false
not_equal s h = grind (arith, ints)

left_off : (x a b : Point) → pos 0 <ℤ orient_of a b x → is_on_segment x a b ≡ false
unfolding is_on_segment
left_off x a b h = ap (λ t. t && (is_between x.x a.x b.x && is_between x.y a.y b.y)) (not_equal (orient_of a b x) h)

pub all_false : (c p q a b : Bool) → c ≡ false → p ≡ false → q ≡ false → a ≡ false → b ≡ false
    → (c || ((a || b) || (p || q))) ≡ false
all_false c p q a b h i j k l = rw (h, i, j, k, l) refl

pub first_false : (c d : Bool) → c ≡ false → (c && d) ≡ false
first_false c d h = rw h refl

-- both ends of the second segment are strictly left of the first
pub free_left : (a b p q : Point) → pos 0 <ℤ orient_of a b p → pos 0 <ℤ orient_of a b q → do_touch a b p q ≡ false
unfolding do_touch cross_properly
free_left a b p q sp sq =
    all_false (are_opposite (orient_of a b p) (orient_of a b q) && are_opposite (orient_of p q a) (orient_of p q b))
    (is_on_segment p a b) (is_on_segment q a b) (is_on_segment a p q) (is_on_segment b p q)
    (first_false _ _ (not_opposite (orient_of a b p) (orient_of a b q) sp sq))
    (left_off p a b sp) (left_off q a b sq)
    (not_between (vector a b) a p q sp sq)
    (not_between (vector a b) b p q (subst (λ t. pos 0 <ℤ t) (sym (chained a.x a.y b.x b.y p.x p.y)) sp)
    (subst (λ t. pos 0 <ℤ t) (sym (chained a.x a.y b.x b.y q.x q.y)) sq))

pub free_right : (a b p q : Point) → pos 0 <ℤ orient_of b a p → pos 0 <ℤ orient_of b a q → do_touch a b p q ≡ false
free_right a b p q sp sq = sym (touch_turned a b p q) ∙ free_left b a p q sp sq

pub free_up : (a b p q : Point) → pos 0 <ℤ orient_of p q a → pos 0 <ℤ orient_of p q b → do_touch a b p q ≡ false
free_up a b p q ta tb = touching_is_symmetric a b p q ∙ free_left p q a b ta tb

pub free_down : (a b p q : Point) → pos 0 <ℤ orient_of q p a → pos 0 <ℤ orient_of q p b → do_touch a b p q ≡ false
free_down a b p q ta tb = touching_is_symmetric a b p q ∙ free_right p q a b ta tb

-- ---- apart in a coordinate

-- both of p and q are less than both of a and b
pub record AreBefore (p q a b : ℤ) : Type 0 where
  pub pa : p <ℤ a
  pub pb : p <ℤ b
  pub qa : q <ℤ a
  pub qb : q <ℤ b

-- signs of a proper crossing, in one coordinate
never_met : (k ta tb sp sq a b p q : ℤ) → sp -ℤ sq ≡ k → tb ≡ ta +ℤ k
    → k *ℤ (a -ℤ p) ≡ ta *ℤ (b -ℤ a) +ℤ sp *ℤ (q -ℤ p) → pos 0 <ℤ sp → sq <ℤ pos 0 → ta <ℤ pos 0 → pos 0 <ℤ tb
    → AreBefore p q a b → ⊥
never_met k ta tb sp sq a b p q e f i hsp hsq hta htb apart =
    let pa = apart.pa in
    let pb = apart.pb in
    let qa = apart.qa in
    let qb = apart.qb in
    let k_is : k *ℤ (a -ℤ p) ≡ sp *ℤ (a -ℤ p) -ℤ sq *ℤ (a -ℤ p) = ap (λ t. t *ℤ (a -ℤ p)) (sym e)
    ∙ minus_times sp sq (a -ℤ p) in
    let sp_parts : sp *ℤ (a -ℤ p) ≡ sp *ℤ (a -ℤ q) +ℤ sp *ℤ (q -ℤ p) = let s : a -ℤ p ≡ (a -ℤ q) +ℤ
    (q -ℤ p) = omega (arith, ints) in ap (λ t. sp *ℤ t) s ∙ times_sum sp (a -ℤ q) (q -ℤ p) in
    let more = positive_product sp (a -ℤ q) hsp (omega (arith, ints, qa)) in
    let more_too = negative_product sq (a -ℤ p) hsq (omega (arith, ints, pa)) in
    by_lt_z b a
    (λ back.
    let tb_is : tb *ℤ (a -ℤ b) ≡ ta *ℤ (a -ℤ b) +ℤ k *ℤ (a -ℤ b) = ap (λ t. t *ℤ (a -ℤ b)) f
    ∙ sum_times ta k (a -ℤ b) in
    let k_b : k *ℤ (a -ℤ p) ≡ k *ℤ (a -ℤ b) +ℤ k *ℤ (b -ℤ p) = let s : a -ℤ p ≡ (a -ℤ b) +ℤ
    (b -ℤ p) = omega (arith, ints) in ap (λ t. k *ℤ t) s ∙ times_sum k (a -ℤ b) (b -ℤ p) in
    let k_bp : k *ℤ (b -ℤ p) ≡ sp *ℤ (b -ℤ p) -ℤ sq *ℤ (b -ℤ p) = ap (λ t. t *ℤ (b -ℤ p)) (sym e)
    ∙ minus_times sp sq (b -ℤ p) in
    let sp_b : sp *ℤ (b -ℤ p) ≡ sp *ℤ (b -ℤ q) +ℤ sp *ℤ (q -ℤ p) = let s : b -ℤ p ≡ (b -ℤ q) +ℤ
    (q -ℤ p) = omega (arith, ints) in ap (λ t. sp *ℤ t) s ∙ times_sum sp (b -ℤ q) (q -ℤ p) in
    let one = positive_product sp (b -ℤ q) hsp (omega (arith, ints, qb)) in
    let two = negative_product sq (b -ℤ p) hsq (omega (arith, ints, pb)) in
    let three = positive_product tb (a -ℤ b) htb (omega (arith, ints, back)) in
    let turned : ta *ℤ (b -ℤ a) ≡ neg_ℤ (ta *ℤ (a -ℤ b)) = let s : b -ℤ a ≡ neg_ℤ (a -ℤ b) = omega (arith, ints) in
    ap (λ t. ta *ℤ t) s ∙ times_neg ta (a -ℤ b) in
    absurd (omega (arith, ints, i, tb_is, k_b, k_bp, sp_b, one, two, three, turned)))
    (λ on.
    let three = opposite_product ta (b -ℤ a) (omega (arith, ints, hta)) (omega (arith, ints, on)) in
    absurd (omega (arith, ints, i, k_is, sp_parts, more, more_too, three)))

pub data Crossing (s t : ℤ) : Type 0 where
  falls : pos 0 <ℤ s → t <ℤ pos 0 → Crossing s t
  rises : s <ℤ pos 0 → pos 0 <ℤ t → Crossing s t

pub crossing : (s t : ℤ) → are_opposite s t ≡ true → Crossing s t
crossing s t h =
    by_lt_z (pos 0) s
    (λ p. let q : t <ℤ pos 0 = grind (arith, ints) in falls p q)
    (λ p. let q : pos 0 <ℤ t = grind (arith, ints) in let r : s <ℤ pos 0 = grind (arith, ints) in rises r q)

-- by a coordinate for which the lines' equations hold
not_crossing : (a b p q : Point) (x : Point → ℤ)
    → ((a b p q : Point)
    → cross_of (vector p q) (vector a b) *ℤ (x a -ℤ x p)
    ≡ orient_of p q a *ℤ (x b -ℤ x a) +ℤ orient_of a b p *ℤ (x q -ℤ x p))
    → AreBefore (x p) (x q) (x a) (x b) → cross_properly a b p q ≡ false
unfolding cross_properly
not_crossing a b p q x line apart =
    false_from_ne_true _
    (λ h. let parts = and_parts (are_opposite (orient_of a b p) (orient_of a b q))
    (are_opposite (orient_of p q a) (orient_of p q b)) h in
    by_signs (crossing (orient_of a b p) (orient_of a b q) parts.0)
    (crossing (orient_of p q a) (orient_of p q b) parts.1))
  where
    met : (a b p q : Point) → pos 0 <ℤ orient_of a b p → orient_of a b q <ℤ pos 0 → orient_of p q a <ℤ pos 0
        → pos 0 <ℤ orient_of p q b → AreBefore (x p) (x q) (x a) (x b) → ⊥
    met a b p q sp sq ta tb apart =
        let c = changes a b p q in
        let k = orient_of p q b -ℤ orient_of p q a in
        let is : cross_of (vector p q) (vector a b) ≡ k = let h = height_from' p q a b in omega (arith, ints, h) in
        never_met k (orient_of p q a) (orient_of p q b) (orient_of a b p) (orient_of a b q) (x a) (x b) (x p) (x q) c
        (omega (arith, ints))
        (ap (λ t. t *ℤ (x a -ℤ x p)) (sym is) ∙ line a b p q) sp sq ta tb apart
      where
        height_from' : (p q a b : Point) → orient_of p q b ≡ orient_of p q a +ℤ cross_of (vector p q) (vector a b)
        height_from' p q a b = height_from p q a b

    by_signs : Crossing (orient_of a b p) (orient_of a b q) → Crossing (orient_of p q a) (orient_of p q b) → ⊥
    by_signs (falls sp sq) (rises ta tb) = met a b p q sp sq ta tb apart
    by_signs (falls sp sq) (falls ta tb) = let c = changes a b p q in absurd (omega (arith, ints, c, sp, sq, ta, tb))
    by_signs (rises sp sq) (rises ta tb) = let c = changes a b p q in absurd (omega (arith, ints, c, sp, sq, ta, tb))
    by_signs (rises sp sq) (falls ta tb) =
        let first = orient_of_first_exchanged p q a in
        let second = orient_of_first_exchanged p q b in
        met a b q p sq sp (omega (arith, ints, first, ta)) (omega (arith, ints, second, tb))
        (record { pa = apart.qa; pb = apart.qb; qa = apart.pa; qb = apart.pb })

outside : (m a b : ℤ) → (m <ℤ a) × (m <ℤ b) ⊎ (a <ℤ m) × (b <ℤ m) → is_between m a b ≡ false
outside m a b (inl h) = let p = h.0 in let q = h.1 in grind (arith, ints)
outside m a b (inr h) = let p = h.0 in let q = h.1 in grind (arith, ints)

off_x : (x a b : Point) → is_between x.x a.x b.x ≡ false → is_on_segment x a b ≡ false
unfolding is_on_segment
off_x x a b h = three_false _ _ _ h
  where
    three_false : (s t u : Bool) → t ≡ false → (s && (t && u)) ≡ false
    three_false true t u e = rw e refl
    three_false false t u e = refl

off_y : (x a b : Point) → is_between x.y a.y b.y ≡ false → is_on_segment x a b ≡ false
unfolding is_on_segment
off_y x a b h = three_false _ _ _ h
  where
    three_false : (s t u : Bool) → u ≡ false → (s && (t && u)) ≡ false
    three_false true true u e = e
    three_false true false u e = refl
    three_false false t u e = refl

pub free_west : (a b p q : Point) → AreBefore p.x q.x a.x b.x → do_touch a b p q ≡ false
unfolding do_touch
free_west a b p q apart =
    all_false (cross_properly a b p q) (is_on_segment p a b) (is_on_segment q a b) (is_on_segment a p q)
    (is_on_segment b p q)
    (not_crossing a b p q (λ v. v.x) line_x apart)
    (off_x p a b (outside p.x a.x b.x (inl (apart.pa, apart.pb))))
    (off_x q a b (outside q.x a.x b.x (inl (apart.qa, apart.qb))))
    (off_x a p q (outside a.x p.x q.x (inr (apart.pa, apart.qa))))
    (off_x b p q (outside b.x p.x q.x (inr (apart.pb, apart.qb))))

pub free_south : (a b p q : Point) → AreBefore p.y q.y a.y b.y → do_touch a b p q ≡ false
unfolding do_touch
free_south a b p q apart =
    all_false (cross_properly a b p q) (is_on_segment p a b) (is_on_segment q a b) (is_on_segment a p q)
    (is_on_segment b p q)
    (not_crossing a b p q (λ v. v.y) line_y apart)
    (off_y p a b (outside p.y a.y b.y (inl (apart.pa, apart.pb))))
    (off_y q a b (outside q.y a.y b.y (inl (apart.qa, apart.qb))))
    (off_y a p q (outside a.y p.y q.y (inr (apart.pa, apart.qa))))
    (off_y b p q (outside b.y p.y q.y (inr (apart.pb, apart.qb))))

pub free_east : (a b p q : Point) → AreBefore a.x b.x p.x q.x → do_touch a b p q ≡ false
free_east a b p q apart = touching_is_symmetric a b p q ∙ free_west p q a b apart

pub free_north : (a b p q : Point) → AreBefore a.y b.y p.y q.y → do_touch a b p q ≡ false
free_north a b p q apart = touching_is_symmetric a b p q ∙ free_south p q a b apart

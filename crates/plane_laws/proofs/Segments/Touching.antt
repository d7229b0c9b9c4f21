-- Two segments whose ends don't lie strictly on one side of the other share a point; whichever way round each of them
-- is named.
use Rattle.std.specs.Prelude.{true, ◌&&◌, Bool, false, ◌||◌}
use Rattle.std.specs.Ordering.{int_eq}
use Rattle.std.proofs.Common.{arith, pos, ℤ, ◌≡◌, ◌-ℤ◌, ◌*ℤ◌, ◌<ℤ◌, ◌≤ℤ◌, ap, neg_ℤ, sym, ◌+ℤ◌, ◌∙◌, inl, inr, refl}
use Rattle.std.proofs.Common.{◌⊎◌}
use Rattle.std.proofs.lemmas.Int.{ints, by_lt_z}
use Rattle.std.proofs.lemmas.Bool.{and_from, and_parts, or_parts}
use Rattle.int_laws.proofs.Ring.{minus_times, product_swapped, times_minus, times_neg, times_sum, chained}
use Rattle.int_laws.proofs.Ring.{cross_of_three, cross_across, neg_times, zero_times}
use Rattle.int_laws.proofs.Signs.{not_negative_factor, not_negative_product}
use Rattle.int_laws.proofs.Tests.{equal_tested, tested_equal, agree}
use Rattle.plane_spec.specs.declared.Point.{Point}
use Rattle.plane_spec.specs.Segments.{is_between, is_on_segment, are_opposite, cross_properly, do_touch}
use Rattle.plane_spec.specs.Vectors.{orient_of, cross_of, vector}
use Rattle.exact_geom.proofs.Orientation.{orient_of_cycled, orient_of_first_exchanged}
use Rattle.plane_laws.proofs.Points.Heights.{height_from}
use Rattle.plane_laws.proofs.Tests.{clash}
use Rattle.std.proofs.Math.Bool.{or_comm}

between_up : (x a b k m : ℤ) → pos 0 <ℤ k → pos 0 ≤ℤ m → m ≤ℤ k → k *ℤ (x -ℤ a) ≡ m *ℤ (b -ℤ a) → a ≤ℤ b
    → is_between x a b ≡ true
between_up x a b k m k_up m_low m_high e up =
    let first = not_negative_product m (b -ℤ a) m_low (omega (arith, ints, up)) in
    let second = not_negative_product (k -ℤ m) (b -ℤ a) (omega (arith, ints, m_high)) (omega (arith, ints, up)) in
    let whole = minus_times k m (b -ℤ a) in
    let parts = times_minus k (b -ℤ a) (x -ℤ a) in
    let turn = product_swapped k (x -ℤ a) in
    let turn_too = product_swapped k ((b -ℤ a) -ℤ (x -ℤ a)) in
    let low = not_negative_factor (x -ℤ a) k (omega (arith, ints, first, e, turn)) k_up in
    let high = not_negative_factor ((b -ℤ a) -ℤ (x -ℤ a)) k
    (omega (arith, ints, second, whole, parts, e, turn_too)) k_up in
    let from : a ≤ℤ x = omega (arith, ints, low) in
    let to : x ≤ℤ b = omega (arith, ints, high) in
    grind (arith, ints)

-- x is m/k of the way from a to b
pub between_by : (x a b k m : ℤ) → pos 0 <ℤ k → pos 0 ≤ℤ m → m ≤ℤ k → k *ℤ (x -ℤ a) ≡ m *ℤ (b -ℤ a)
    → is_between x a b ≡ true
between_by x a b k m k_up m_low m_high e =
    by_lt_z a b
    (λ p. between_up x a b k m k_up m_low m_high e (omega (arith, ints, p)))
    (λ q.
    let whole = minus_times k m (a -ℤ b) in
    let back = times_neg m (b -ℤ a) in
    let turned : neg_ℤ (b -ℤ a) ≡ a -ℤ b = omega (arith, ints) in
    let back_too : m *ℤ (a -ℤ b) ≡ neg_ℤ (m *ℤ (b -ℤ a)) = ap (λ t. m *ℤ t) (sym turned) ∙ back in
    let parts : k *ℤ (x -ℤ b) ≡ k *ℤ (x -ℤ a) +ℤ k *ℤ (a -ℤ b) =
    let s : x -ℤ b ≡ (x -ℤ a) +ℤ (a -ℤ b) = omega (arith, ints) in ap (λ t. k *ℤ t) s ∙ times_sum k (x -ℤ a) (a -ℤ b) in
    let h = between_up x b a k (k -ℤ m) k_up (omega (arith, ints, m_high)) (omega (arith, ints, m_low))
    (omega (arith, ints, whole, back_too, parts, e)) q in
    swapped x a b h)
  where
    swapped : (x a b : ℤ) → is_between x b a ≡ true → is_between x a b ≡ true
    swapped x a b h = grind (arith, ints)

-- ---- a point of a line

-- x lies in line with a and b, m/k of the way from a to b
pub on_by : (x a b : Point) (k m : ℤ) → orient_of a b x ≡ pos 0 → pos 0 <ℤ k → pos 0 ≤ℤ m → m ≤ℤ k
    → k *ℤ (x.x -ℤ a.x) ≡ m *ℤ (b.x -ℤ a.x) → k *ℤ (x.y -ℤ a.y) ≡ m *ℤ (b.y -ℤ a.y)
    → is_on_segment x a b ≡ true
unfolding is_on_segment
on_by x a b k m line k_up m_low m_high e f =
    and_from _ _ (equal_tested (orient_of a b x) (pos 0) line)
    (and_from _ _ (between_by x.x a.x b.x k m k_up m_low m_high e) (between_by x.y a.y b.y k m k_up m_low m_high f))

-- ---- four points

-- from one end of ab to the other, the height over pq changes as that over ab from one end of pq to the other, with
-- the other sign
pub changes : (a b p q : Point) → orient_of a b p -ℤ orient_of a b q ≡ orient_of p q b -ℤ orient_of p q a
changes a b p q =
    let first = height_from a b p q in
    let second = height_from p q a b in
    let turn = cross_exchanged' (vector a b) (vector p q) in
    omega (arith, ints, first, second, turn)
  where
    cross_exchanged' : (d e : Point) → cross_of e d ≡ neg_ℤ (cross_of d e)
    cross_exchanged' d e = omega (arith, ints)

met : (a b p : Point) → cross_of (vector p a) (vector a b) ≡ orient_of a b p
met a b p = chained p.x p.y a.x a.y b.x b.y ∙ sym (orient_of_cycled p a b)

pub line_y : (a b p q : Point)
    → cross_of (vector p q) (vector a b) *ℤ (a.y -ℤ p.y)
    ≡ orient_of p q a *ℤ (b.y -ℤ a.y) +ℤ orient_of a b p *ℤ (q.y -ℤ p.y)
line_y a b p q =
    cross_of_three (q.x -ℤ p.x) (q.y -ℤ p.y) (a.x -ℤ p.x) (a.y -ℤ p.y) (b.x -ℤ a.x) (b.y -ℤ a.y)
    ∙ ap (λ t. orient_of p q a *ℤ (b.y -ℤ a.y) +ℤ t *ℤ (q.y -ℤ p.y)) (met a b p)

pub line_x : (a b p q : Point)
    → cross_of (vector p q) (vector a b) *ℤ (a.x -ℤ p.x)
    ≡ orient_of p q a *ℤ (b.x -ℤ a.x) +ℤ orient_of a b p *ℤ (q.x -ℤ p.x)
line_x a b p q =
    cross_across (q.x -ℤ p.x) (q.y -ℤ p.y) (a.x -ℤ p.x) (a.y -ℤ p.y) (b.x -ℤ a.x) (b.y -ℤ a.y)
    ∙ ap (λ t. orient_of p q a *ℤ (b.x -ℤ a.x) +ℤ t *ℤ (q.x -ℤ p.x)) (met a b p)

-- ---- touching

-- the line through p and q goes from the right of ab to its left, from a to b: an end of one is on the other, or they
-- cross
pub record MeetSigns (a b p q : Point) : Type 0 where
  pub p_left : pos 0 ≤ℤ orient_of a b p
  pub q_right : orient_of a b q ≤ℤ pos 0
  pub a_right : orient_of p q a ≤ℤ pos 0
  pub b_left : pos 0 ≤ℤ orient_of p q b
  pub apart : pos 0 <ℤ (orient_of a b p -ℤ orient_of a b q)

-- where p lies on the line through a and b
pub p_on : (a b p q : Point) → MeetSigns a b p q → orient_of a b p ≡ pos 0 → is_on_segment p a b ≡ true
p_on a b p q s line =
    let c = changes a b p q in
    let h = height_from p q a b in
    let k = cross_of (vector p q) (vector a b) in
    let m = neg_ℤ (orient_of p q a) in
    on_by p a b k m line (omega (arith, ints, s.apart, c, h)) (omega (arith, ints, s.a_right))
    (omega (arith, ints, s.b_left, h))
    (back k (orient_of p q a) a.x p.x b.x (q.x -ℤ p.x) (orient_of a b p) line (line_x a b p q))
    (back k (orient_of p q a) a.y p.y b.y (q.y -ℤ p.y) (orient_of a b p) line (line_y a b p q))
  where
    back : (k t a p b w s : ℤ) → s ≡ pos 0 → k *ℤ (a -ℤ p) ≡ t *ℤ (b -ℤ a) +ℤ s *ℤ w
        → k *ℤ (p -ℤ a) ≡ neg_ℤ t *ℤ (b -ℤ a)
    back k t a p b w s none e =
        let nothing : s *ℤ w ≡ pos 0 = ap (λ z. z *ℤ w) none ∙ zero_times w in
        let turned : neg_ℤ (a -ℤ p) ≡ p -ℤ a = omega (arith, ints) in
        let first : k *ℤ (p -ℤ a) ≡ neg_ℤ (k *ℤ (a -ℤ p)) = ap (λ z. k *ℤ z) (sym turned) ∙ times_neg k (a -ℤ p) in
        let second = neg_times t (b -ℤ a) in
        omega (arith, ints, nothing, first, second, e)

meet_turned : (a b p q : Point) → MeetSigns a b p q → MeetSigns b a q p
meet_turned a b p q s =
    let first = orient_of_first_exchanged a b p in
    let second = orient_of_first_exchanged a b q in
    let third = orient_of_first_exchanged p q a in
    let fourth = orient_of_first_exchanged p q b in
    record {
      p_left = omega (arith, ints, second, s.q_right);
      q_right = omega (arith, ints, first, s.p_left);
      a_right = omega (arith, ints, fourth, s.b_left);
      b_left = omega (arith, ints, third, s.a_right);
      apart = omega (arith, ints, first, second, s.apart);
    }

meet_swapped : (a b p q : Point) → MeetSigns a b p q → MeetSigns p q b a
meet_swapped a b p q s =
    let c = changes a b p q in
    let first = orient_of_first_exchanged a b p in
    let second = orient_of_first_exchanged a b q in
    record {
      p_left = s.b_left;
      q_right = s.a_right;
      a_right = omega (arith, ints, first, s.p_left);
      b_left = omega (arith, ints, second, s.q_right);
      apart = omega (arith, ints, c, s.apart);
    }

pub on_turned : (x a b : Point) → is_on_segment x b a ≡ true → is_on_segment x a b ≡ true
unfolding is_on_segment
on_turned x a b h =
    let parts = and_parts (int_eq (orient_of b a x) (pos 0)) (is_between x.x b.x a.x && is_between x.y b.y a.y) h in
    let extents = and_parts (is_between x.x b.x a.x) (is_between x.y b.y a.y) parts.1 in
    let line = tested_equal (orient_of b a x) (pos 0) parts.0 in
    let turn = orient_of_first_exchanged a b x in
    and_from _ _ (equal_tested (orient_of a b x) (pos 0) (omega (arith, ints, line, turn)))
    (and_from _ _ (turned x.x a.x b.x extents.0) (turned x.y a.y b.y extents.1))
  where
    turned : (m a b : ℤ) → is_between m b a ≡ true → is_between m a b ≡ true
    turned m a b h = grind (arith, ints)

touch_by : (c p q a b : Bool) → (c ≡ true) ⊎ ((p ≡ true) ⊎ ((q ≡ true) ⊎ ((a ≡ true) ⊎ (b ≡ true))))
    → (c || ((a || b) || (p || q))) ≡ true
touch_by true p q a b h = refl
touch_by false p q true b h = refl
touch_by false p q false true h = refl
touch_by false true q false false h = refl
touch_by false false true false false h = refl
touch_by false false false false false (inl h) = h
touch_by false false false false false (inr (inl h)) = h
touch_by false false false false false (inr (inr (inl h))) = h
touch_by false false false false false (inr (inr (inr (inl h)))) = h
touch_by false false false false false (inr (inr (inr (inr h)))) = h

opposite_by : (s t : ℤ) → (s <ℤ pos 0) × (pos 0 <ℤ t) ⊎ (pos 0 <ℤ s) × (t <ℤ pos 0) → are_opposite s t ≡ true
opposite_by s t (inl h) = let low = h.0 in let high = h.1 in grind (arith, ints)
opposite_by s t (inr h) = let low = h.1 in let high = h.0 in grind (arith, ints)

none_between : (z : ℤ) → pos 0 ≤ℤ z → z ≤ℤ pos 0 → z ≡ pos 0
none_between z h k = omega (arith, ints)

-- segments with such signs touch
pub touching : (a b p q : Point) → MeetSigns a b p q → do_touch a b p q ≡ true
unfolding do_touch cross_properly
touching a b p q s =
    touch_by (are_opposite (orient_of a b p) (orient_of a b q) && are_opposite (orient_of p q a) (orient_of p q b))
    (is_on_segment p a b) (is_on_segment q a b) (is_on_segment a p q) (is_on_segment b p q)
    (by_lt_z (pos 0) (orient_of a b p)
    (λ p_up. by_lt_z (orient_of a b q) (pos 0)
    (λ q_down. by_lt_z (orient_of p q a) (pos 0)
    (λ a_down. by_lt_z (pos 0) (orient_of p q b)
    (λ b_up. inl (and_from _ _ (opposite_by (orient_of a b p) (orient_of a b q) (inr (p_up, q_down)))
    (opposite_by (orient_of p q a) (orient_of p q b) (inl (a_down, b_up)))))
    (λ low. let line = none_between (orient_of p q b) s.b_left low in
    inr (inr (inr (inr (p_on p q b a (meet_swapped a b p q s) line))))))
    (λ high. let line = none_between (orient_of p q a) high s.a_right in
    let turn = orient_of_first_exchanged p q a in
    inr (inr (inr (inl (on_turned a p q (p_on q p a b (meet_turned p q b a (meet_swapped a b p q s))
    (omega (arith, ints, line, turn)))))))))
    (λ high. let line = none_between (orient_of a b q) high s.q_right in
    let turn = orient_of_first_exchanged a b q in
    inr (inr (inl (on_turned q a b (p_on b a q p (meet_turned a b p q s) (omega (arith, ints, line, turn))))))))
    (λ low. let line = none_between (orient_of a b p) s.p_left low in inr (inl (p_on a b p q s line))))

-- ---- touching, either way round

pub opposite_swapped : (s t : ℤ) → are_opposite t s ≡ are_opposite s t
opposite_swapped s t = grind (arith, ints)

pub opposite_negated : (s t u v : ℤ) → u ≡ neg_ℤ s → v ≡ neg_ℤ t → are_opposite u v ≡ are_opposite s t
opposite_negated s t u v e f = grind (arith, ints)

pub on_either : (x a b : Point) → is_on_segment x b a ≡ is_on_segment x a b
on_either x a b = agree (is_on_segment x b a) (is_on_segment x a b) (on_turned x a b) (on_turned x b a)

-- the ends of the second segment may be exchanged
pub touch_swapped : (a b p q : Point) → do_touch a b q p ≡ do_touch a b p q
unfolding do_touch cross_properly
touch_swapped a b p q =
    rw (
      opposite_swapped (orient_of a b p) (orient_of a b q),
      opposite_negated (orient_of p q a) (orient_of p q b) (orient_of q p a) (orient_of q p b)
          (orient_of_first_exchanged p q a) (orient_of_first_exchanged p q b),
      on_either a p q,
      on_either b p q,
      or_comm (is_on_segment q a b) (is_on_segment p a b),
    ) refl

-- and those of the first
pub touch_turned : (a b p q : Point) → do_touch b a p q ≡ do_touch a b p q
unfolding do_touch cross_properly
touch_turned a b p q =
    rw (
      opposite_swapped (orient_of p q a) (orient_of p q b),
      opposite_negated (orient_of a b p) (orient_of a b q) (orient_of b a p) (orient_of b a q)
          (orient_of_first_exchanged a b p) (orient_of_first_exchanged a b q),
      on_either p a b,
      on_either q a b,
      or_comm (is_on_segment b p q) (is_on_segment a p q),
    ) refl

pub never_down : (a b p q : Point) → do_touch a b p q ≡ false → pos 0 ≤ℤ orient_of a b p → orient_of a b q ≤ℤ pos 0
    → orient_of p q a ≤ℤ pos 0 → pos 0 ≤ℤ orient_of p q b
    → pos 0 <ℤ (orient_of a b p -ℤ orient_of a b q) → ⊥
never_down a b p q free sp sq ta tb more =
    clash free (touching a b p q (record { p_left = sp; q_right = sq; a_right = ta; b_left = tb; apart = more }))

pub never_up : (a b p q : Point) → do_touch a b p q ≡ false → orient_of a b p ≤ℤ pos 0 → pos 0 ≤ℤ orient_of a b q
    → pos 0 ≤ℤ orient_of p q a → orient_of p q b ≤ℤ pos 0
    → pos 0 <ℤ (orient_of a b q -ℤ orient_of a b p) → ⊥
never_up a b p q free sp sq ta tb more =
    let first = orient_of_first_exchanged p q a in
    let second = orient_of_first_exchanged p q b in
    never_down a b q p (touch_swapped a b p q ∙ free) sq sp (omega (arith, ints, first, ta))
    (omega (arith, ints, second, tb)) more

pub end_off : (a b c d : Point) → do_touch a b c d ≡ false → is_on_segment d a b ≡ false
unfolding do_touch
end_off a b c d h =
    let first = or_parts (cross_properly a b c d) ((is_on_segment a c d || is_on_segment b c d) ||
    (is_on_segment c a b || is_on_segment d a b)) h in
    let second = or_parts (is_on_segment a c d || is_on_segment b c d)
    (is_on_segment c a b || is_on_segment d a b) first.1 in
    (or_parts (is_on_segment c a b) (is_on_segment d a b) second.1).1

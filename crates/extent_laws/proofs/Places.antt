-- The ends of axial lines as spots.
--
-- An axial line ends at a place, whose two coordinates are each in lowest terms; the spot p + t d has the same values
-- over
-- one denominator. So the place meets a test of a box, or of a point on the extent, exactly where the spot does, and
-- two
-- places are one exactly where their spots are. What meets the extents of two lines with the same ends, and what lies
-- on
-- them, is then the same; and the two points of a pair lie on its line, since each end is its point or lies beyond
-- it.
use Rattle.std.proofs.Common.{◌≡◌, ◌∙◌, Bool, true, not, ◌&&◌, ◌||◌, ℤ, pos, neg_ℤ, ◌+ℤ◌, ◌-ℤ◌, ◌*ℤ◌, ◌≤ℤ◌}
use Rattle.std.proofs.Common.{◌<ℤ◌, ℕ, Option, Some, None, arith, refl, sym, ap}
use Rattle.std.specs.Prelude.{int_lt, int_le}
use Rattle.std.specs.Ordering.{int_eq}
use Rattle.std.proofs.lemmas.Int.{ints, by_lt_z}
use Rattle.std.proofs.lemmas.Bool.{and_parts}
use borrow.Author.Differences.{up, down}
use Rattle.int_laws.proofs.Ring.{diff, is_diff, product_diff, same_diff, times_zero}
use Rattle.int_laws.proofs.Ring.{product_swapped}
use Rattle.int_laws.proofs.Signs.{positive_product}
use Rattle.int_laws.proofs.Tests.{tested_equal, at_most_tested}
use Rattle.plane_spec.specs.declared.Point.{Point}
use Rattle.plane_spec.specs.declared.PlanBox.{PlanBox}
use Rattle.plane_spec.specs.Vectors.{vector, orient_of}
use Rattle.plane_spec.specs.Fractions.{Fraction, RPoint, whole, is_before, reduced, same_value, same_rpoint}
use Rattle.plane_spec.specs.Fractions.{along, shifted}
use Rattle.plane_spec.specs.Boxes.{does_extent_meet_box}
use Rattle.exact_geom.proofs.Lowest.{reduced_is_reduced}
use Rattle.exact_geom.proofs.Values.{reduced_keeps_value}
use Rattle.plane_spec.specs.RPoints.{is_between_fractions}
use Rattle.sight_spec.specs.Axial.{end_by}
use Rattle.box_laws.proofs.Touching.{line_turned}
use Rattle.spot_laws.proofs.Spots.{Spot, spot_at, spots_meet_box}
use Rattle.extent_laws.proofs.Hits.{IsHit}
use Rattle.extent_laws.proofs.Reaches.{reach}
use Rattle.spot_laws.proofs.Factors.{from_one, same_factor, low_same, high_same}
use Rattle.spot_laws.proofs.Spans.{outer_up, outer_down}
use Rattle.spot_laws.proofs.SameSpots.{SameSpot, IsExtent, side_same, turned}

-- ---- a place and a spot of one value

-- the place has the values of the spot
pub record IsSpot (e : RPoint) (s : Spot) : Type 0 where
  pub over : pos 0 <ℤ s.w
  pub over_x : pos 0 <ℤ e.x.den
  pub over_y : pos 0 <ℤ e.y.den
  pub x : e.x.num *ℤ s.w ≡ s.x *ℤ e.x.den
  pub y : e.y.num *ℤ s.w ≡ s.y *ℤ e.y.den

-- a coordinate on the way has a positive denominator
shifted_up : (z d : ℤ) (t : Fraction) → pos 0 <ℤ t.den → pos 0 <ℤ (shifted z d t).den
shifted_up z d t h =
    let low = (reduced_is_reduced (record { num = z *ℤ t.den +ℤ t.num *ℤ d; den = t.den })
    (omega (arith, ints))).positive in
    from_one (shifted z d t).den low

-- and the value of the spot
shifted_value : (z d : ℤ) (t : Fraction)
    → (shifted z d t).num *ℤ t.den ≡ (z *ℤ t.den +ℤ t.num *ℤ d) *ℤ (shifted z d t).den
shifted_value z d t =
    let f : Fraction = record { num = z *ℤ t.den +ℤ t.num *ℤ d; den = t.den } in
    sym (tested_equal (f.num *ℤ (reduced f).den) ((reduced f).num *ℤ f.den) (reduced_keeps_value f))

-- the end of a line has the values of its spot
pub end_is_spot : (p d : Point) (o : Option Fraction) → IsHit (reach o)
    → IsSpot (end_by p d o) (spot_at p d (reach o))
unfolding along
end_is_spot p d None h = record {
  over = omega (arith, ints);
  over_x = omega (arith, ints);
  over_y = omega (arith, ints);
  x = still p.x d.x;
  y = still p.y d.y;
}
  where
    still : (z d : ℤ) → z *ℤ pos 1 ≡ (z *ℤ pos 1 +ℤ pos 0 *ℤ d) *ℤ pos 1
    still z d = omega (arith, ints)
end_is_spot p d (Some t) h = record {
  over = h.over.den;
  over_x = shifted_up p.x d.x t h.over.den;
  over_y = shifted_up p.y d.y t h.over.den;
  x = shifted_value p.x d.x t;
  y = shifted_value p.y d.y t;
}

-- the boxes that are met are the same
pub meets_as_spots : (a b : Point) (from to : RPoint) (f t : Spot) (area : PlanBox) → IsSpot from f → IsSpot to t
    → does_extent_meet_box a b from to area ≡ spots_meet_box a b f t area
unfolding does_extent_meet_box spots_meet_box
meets_as_spots a b from to f t area i k =
    rw (
      low_same area.low.x from.x.num from.x.den f.x f.w i.over_x i.over i.x,
      low_same area.low.x to.x.num to.x.den t.x t.w k.over_x k.over k.x,
      high_same area.high.x from.x.num from.x.den f.x f.w i.over_x i.over i.x,
      high_same area.high.x to.x.num to.x.den t.x t.w k.over_x k.over k.x,
      low_same area.low.y from.y.num from.y.den f.y f.w i.over_y i.over i.y,
      low_same area.low.y to.y.num to.y.den t.y t.w k.over_y k.over k.y,
      high_same area.high.y from.y.num from.y.den f.y f.w i.over_y i.over i.y,
      high_same area.high.y to.y.num to.y.den t.y t.w k.over_y k.over k.y,
    )
    refl

-- ---- one place

-- (a b) (c d) = (a d) (c b)
crossed : (a b c d : ℤ) → (a *ℤ b) *ℤ (c *ℤ d) ≡ (a *ℤ d) *ℤ (c *ℤ b)
crossed a b c d =
    rw (is_diff a, is_diff b, is_diff c, is_diff d)
    (crossed_diff (up a) (down a) (up b) (down b) (up c) (down c) (up d) (down d))
  where
    crossed_diff : (a b c d e f g h : ℕ)
        → (diff a b *ℤ diff c d) *ℤ (diff e f *ℤ diff g h) ≡ (diff a b *ℤ diff g h) *ℤ (diff e f *ℤ diff c d)
    crossed_diff a b c d e f g h = simp product_diff (same_diff _ _ _ _ (omega arith))

-- x/w and y/v are one value where n/d and m/e are, which have their values
same_over : (n d x w m e y v : ℤ) → pos 0 <ℤ d → pos 0 <ℤ e → n *ℤ w ≡ x *ℤ d → m *ℤ v ≡ y *ℤ e → n *ℤ e ≡ m *ℤ d
    → x *ℤ v ≡ y *ℤ w
same_over n d x w m e y v du eu p q r =
    same_factor (e *ℤ d) (x *ℤ v) (y *ℤ w) (positive_product e d eu du)
    (product_swapped (e *ℤ d) (x *ℤ v)
    ∙ crossed x v e d
    ∙ ap (λ z. z *ℤ (e *ℤ v)) (sym p)
    ∙ ap (λ z. (n *ℤ w) *ℤ z) (product_swapped e v)
    ∙ crossed n w v e
    ∙ ap (λ z. z *ℤ (v *ℤ w)) r
    ∙ ap (λ z. (m *ℤ d) *ℤ z) (product_swapped v w)
    ∙ crossed m d w v
    ∙ ap (λ z. z *ℤ (w *ℤ d)) q
    ∙ ap (λ z. (y *ℤ e) *ℤ z) (product_swapped w d)
    ∙ crossed y e d w
    ∙ ap (λ z. (y *ℤ w) *ℤ z) (product_swapped d e)
    ∙ product_swapped (y *ℤ w) (e *ℤ d))

-- one place is one spot
pub same_spots : (e g : RPoint) (s t : Spot) → IsSpot e s → IsSpot g t → same_rpoint e g ≡ true → SameSpot s t
same_spots e g s t i k h =
    let both = and_parts (same_value e.x g.x) (same_value e.y g.y) h in
    record {
      x =
          same_over e.x.num e.x.den s.x s.w g.x.num g.x.den t.x t.w i.over_x k.over_x i.x k.x
          (tested_equal (e.x.num *ℤ g.x.den) (g.x.num *ℤ e.x.den) both.0);
      y =
          same_over e.y.num e.y.den s.y s.w g.y.num g.y.den t.y t.w i.over_y k.over_y i.y k.y
          (tested_equal (e.y.num *ℤ g.y.den) (g.y.num *ℤ e.y.den) both.1);
    }

-- ---- what lies on an extent

-- the number is between m/v and n/w
abbrev is_between_spots : ℤ → ℤ → ℤ → ℤ → ℤ → Bool
is_between_spots z m v n w = (int_le m (z *ℤ v) && int_le (z *ℤ w) n) || (int_le n (z *ℤ w) && int_le (z *ℤ v) m)

-- the point is in line with a and b, and between the spots
unfoldable pub is_on_spots : Point → Point → Spot → Spot → Point → Bool
is_on_spots a b f t p =
    int_eq (orient_of a b p) (pos 0) && (is_between_spots p.x f.x f.w t.x t.w && is_between_spots p.y f.y f.w t.y t.w)

-- the same between places
abbrev pub is_on_places : Point → Point → RPoint → RPoint → Point → Bool
is_on_places a b f t p =
    int_eq (orient_of a b p) (pos 0)
    && (is_between_fractions (whole p.x) f.x t.x && is_between_fractions (whole p.y) f.y t.y)

-- a whole number is between two fractions as between their values elsewhere
between_as_spots : (z : ℤ) (f g : Fraction) (m v n w : ℤ) → pos 0 <ℤ f.den → pos 0 <ℤ v → f.num *ℤ v ≡ m *ℤ f.den
    → pos 0 <ℤ g.den → pos 0 <ℤ w → g.num *ℤ w ≡ n *ℤ g.den
    → is_between_fractions (whole z) f g ≡ is_between_spots z m v n w
between_as_spots z f g m v n w fu vu fe gu wu ge =
    rw (
      not_above z f,
      not_below z g,
      not_above z g,
      not_below z f,
      high_same z f.num f.den m v fu vu fe,
      low_same z g.num g.den n w gu wu ge,
      high_same z g.num g.den n w gu wu ge,
      low_same z f.num f.den m v fu vu fe,
    ) refl
  where
    as_most : (a b : ℤ) → not (int_lt a (b *ℤ pos 1)) ≡ int_le b a
    as_most a b = grind (arith, ints)

    as_least : (a b : ℤ) → not (int_lt (b *ℤ pos 1) a) ≡ int_le a b
    as_least a b = grind (arith, ints)

    not_above : (z : ℤ) (f : Fraction) → not (is_before (whole z) f) ≡ int_le f.num (z *ℤ f.den)
    not_above z f = as_most (z *ℤ f.den) f.num

    not_below : (z : ℤ) (g : Fraction) → not (is_before g (whole z)) ≡ int_le (z *ℤ g.den) g.num
    not_below z g = as_least (z *ℤ g.den) g.num

-- a point lies between places as between spots
pub on_as_spots : (a b : Point) (from to : RPoint) (f t : Spot) (p : Point) → IsSpot from f → IsSpot to t
    → is_on_places a b from to p ≡ is_on_spots a b f t p
unfolding is_on_spots
on_as_spots a b from to f t p i k =
    rw (
      between_as_spots p.x from.x to.x f.x f.w t.x t.w i.over_x i.over i.x k.over_x k.over k.x,
      between_as_spots p.y from.y to.y f.y f.w t.y t.w i.over_y i.over i.y k.over_y k.over k.y,
    ) refl

-- a point on a line lies on neither side of it
on_line_by_sides : (a b p : Point)
    → int_eq (orient_of a b p) (pos 0)
    ≡ (not (int_lt (pos 0) (orient_of a b p)) && not (int_lt (pos 0) (orient_of b a p)))
on_line_by_sides a b p = rw (line_turned a b p) (by (orient_of a b p))
  where
    by : (o : ℤ) → int_eq o (pos 0) ≡ (not (int_lt (pos 0) o) && not (int_lt (pos 0) (neg_ℤ o)))
    by o = grind (arith, ints)

-- on lines with the same ends the same points lie
pub on_same : (i j k l : Point) (s t u v : Fraction) (p : Point) → IsExtent s t → IsExtent u v
    → SameSpot (spot_at i (vector j i) s) (spot_at k (vector l k) u)
    → SameSpot (spot_at j (vector i j) t) (spot_at l (vector k l) v)
    → is_on_spots i j (spot_at i (vector j i) s) (spot_at j (vector i j) t) p
    ≡ is_on_spots k l (spot_at k (vector l k) u) (spot_at l (vector k l) v) p
unfolding is_on_spots
on_same i j k l s t u v p a b f g =
    all_same
    (on_line_by_sides i j p ∙ sides (side_same i j k l p s t u v a b f g)
    (side_same j i l k p t s v u (turned a) (turned b) g f) ∙ sym (on_line_by_sides k l p))
    (between p.x _ s.den _ t.den _ u.den _ v.den a.before.den a.after.den b.before.den b.after.den f.x g.x)
    (between p.y _ s.den _ t.den _ u.den _ v.den a.before.den a.after.den b.before.den b.after.den f.y g.y)
  where
    sides : {a b c d : Bool} → a ≡ c → b ≡ d → (not a && not b) ≡ (not c && not d)
    sides h k = rw (h, k) refl

    all_same : {a b c d e f : Bool} → a ≡ d → b ≡ e → c ≡ f → (a && (b && c)) ≡ (d && (e && f))
    all_same h k l = rw (h, k, l) refl

    between : (z fm fv tm tv gm gv um uv : ℤ) → pos 0 <ℤ fv → pos 0 <ℤ tv → pos 0 <ℤ gv → pos 0 <ℤ uv
        → fm *ℤ gv ≡ gm *ℤ fv → tm *ℤ uv ≡ um *ℤ tv
        → is_between_spots z fm fv tm tv ≡ is_between_spots z gm gv um uv
    between z fm fv tm tv gm gv um uv a b c d h k =
        rw (
          high_same z fm fv gm gv a c h,
          low_same z tm tv um uv b d k,
          high_same z tm tv um uv b d k,
          low_same z fm fv gm gv a c h,
        ) refl

-- from the other end
pub on_back : (i j : Point) (f t : Spot) (p : Point) → is_on_spots i j f t p ≡ is_on_spots j i t f p
unfolding is_on_spots
on_back i j f t p =
    all_same (on_line_by_sides i j p
    ∙ exchanged (int_lt (pos 0) (orient_of i j p)) (int_lt (pos 0) (orient_of j i p))
    ∙ sym (on_line_by_sides j i p))
    (either (int_le f.x (p.x *ℤ f.w) && int_le (p.x *ℤ t.w) t.x) (int_le t.x (p.x *ℤ t.w) && int_le (p.x *ℤ f.w) f.x))
    (either (int_le f.y (p.y *ℤ f.w) && int_le (p.y *ℤ t.w) t.y) (int_le t.y (p.y *ℤ t.w) && int_le (p.y *ℤ f.w) f.y))
  where
    exchanged : (a b : Bool) → (not a && not b) ≡ (not b && not a)
    exchanged a b = grind arith

    either : (a b : Bool) → (a || b) ≡ (b || a)
    either a b = grind arith

    all_same : {a b c d e f : Bool} → a ≡ d → b ≡ e → c ≡ f → (a && (b && c)) ≡ (d && (e && f))
    all_same h k l = rw (h, k, l) refl

-- ---- the two points lie on their line

-- z is i or j
between_ends : (i j z sn sd tn td : ℤ) → pos 0 <ℤ sd → pos 0 <ℤ td → pos 0 ≤ℤ sn → pos 0 ≤ℤ tn
    → (i ≤ℤ j → (i ≤ℤ z) × (z ≤ℤ j)) → (j ≤ℤ i → (j ≤ℤ z) × (z ≤ℤ i))
    → is_between_spots z (i *ℤ sd +ℤ sn *ℤ (i -ℤ j)) sd (j *ℤ td +ℤ tn *ℤ (j -ℤ i)) td ≡ true
between_ends i j z sn sd tn td ps pt sn_in tn_in rising falling =
    by_lt_z j i
    (λ m. let h = falling (weak j i m) in
    second (int_le (i *ℤ sd +ℤ sn *ℤ (i -ℤ j)) (z *ℤ sd)) (int_le (z *ℤ td) (j *ℤ td +ℤ tn *ℤ (j -ℤ i)))
    (int_le (j *ℤ td +ℤ tn *ℤ (j -ℤ i)) (z *ℤ td)) (int_le (z *ℤ sd) (i *ℤ sd +ℤ sn *ℤ (i -ℤ j)))
    (at_most_tested _ _ (outer_down z j td tn (j -ℤ i) pt tn_in (under_zero j i m) h.0))
    (at_most_tested _ _ (outer_up z i sd sn (i -ℤ j) ps sn_in (over_zero j i m) h.1)))
    (λ m. let h = rising m in
    first (int_le (i *ℤ sd +ℤ sn *ℤ (i -ℤ j)) (z *ℤ sd)) (int_le (z *ℤ td) (j *ℤ td +ℤ tn *ℤ (j -ℤ i)))
    (int_le (j *ℤ td +ℤ tn *ℤ (j -ℤ i)) (z *ℤ td)) (int_le (z *ℤ sd) (i *ℤ sd +ℤ sn *ℤ (i -ℤ j)))
    (at_most_tested _ _ (outer_down z i sd sn (i -ℤ j) ps sn_in (not_over i j m) h.0))
    (at_most_tested _ _ (outer_up z j td tn (j -ℤ i) pt tn_in (not_under i j m) h.1)))
  where
    weak : (j i : ℤ) → j <ℤ i → j ≤ℤ i
    weak j i h = omega (arith, ints)

    under_zero : (j i : ℤ) → j <ℤ i → (j -ℤ i) ≤ℤ pos 0
    under_zero j i h = omega (arith, ints)

    over_zero : (j i : ℤ) → j <ℤ i → pos 0 ≤ℤ (i -ℤ j)
    over_zero j i h = omega (arith, ints)

    not_over : (i j : ℤ) → i ≤ℤ j → (i -ℤ j) ≤ℤ pos 0
    not_over i j h = omega (arith, ints)

    not_under : (i j : ℤ) → i ≤ℤ j → pos 0 ≤ℤ (j -ℤ i)
    not_under i j h = omega (arith, ints)

    first : (a b c d : Bool) → a ≡ true → b ≡ true → ((a && b) || (c && d)) ≡ true
    first a b c d h k = grind arith

    second : (a b c d : Bool) → c ≡ true → d ≡ true → ((a && b) || (c && d)) ≡ true
    second a b c d h k = grind arith

module _ (i j : Point) (s t : Fraction) (a : IsExtent s t) where
  -- three tests
  all_true : (a b c : Bool) → a ≡ true → b ≡ true → c ≡ true → (a && (b && c)) ≡ true
  all_true a b c h k l = grind arith

  -- a number less itself is 0
  nothing : (z : ℤ) → z -ℤ z ≡ pos 0
  nothing z = omega (arith, ints)

  -- the first point lies on the extent
  pub first_on : is_on_spots i j (spot_at i (vector j i) s) (spot_at j (vector i j) t) i ≡ true
  unfolding is_on_spots
  first_on =
      all_true _ _ _ (in_line i.x i.y j.x j.y)
      (between_ends i.x j.x i.x s.num s.den t.num t.den a.before.den a.after.den a.back a.on (λ h. (same i.x, h))
      (λ h. (h, same i.x)))
      (between_ends i.y j.y i.y s.num s.den t.num t.den a.before.den a.after.den a.back a.on (λ h. (same i.y, h))
      (λ h. (h, same i.y)))
    where
      same : (z : ℤ) → z ≤ℤ z
      same z = omega (arith, ints)

      zero : int_eq (pos 0 -ℤ pos 0) (pos 0) ≡ true
      zero = grind (arith, ints)

      in_line : (ix iy jx jy : ℤ) → int_eq ((jx -ℤ ix) *ℤ (iy -ℤ iy) -ℤ (jy -ℤ iy) *ℤ (ix -ℤ ix)) (pos 0) ≡ true
      in_line ix iy jx jy = rw (nothing ix, nothing iy, times_zero (jx -ℤ ix), times_zero (jy -ℤ iy)) zero

  -- so does the second
  pub second_on : is_on_spots i j (spot_at i (vector j i) s) (spot_at j (vector i j) t) j ≡ true
  unfolding is_on_spots
  second_on =
      all_true _ _ _ (in_line i.x i.y j.x j.y)
      (between_ends i.x j.x j.x s.num s.den t.num t.den a.before.den a.after.den a.back a.on (λ h. (h, same j.x))
      (λ h. (same j.x, h)))
      (between_ends i.y j.y j.y s.num s.den t.num t.den a.before.den a.after.den a.back a.on (λ h. (h, same j.y))
      (λ h. (same j.y, h)))
    where
      same : (z : ℤ) → z ≤ℤ z
      same z = omega (arith, ints)

      zero : (o : ℤ) → int_eq (o -ℤ o) (pos 0) ≡ true
      zero o = grind (arith, ints)

      in_line : (ix iy jx jy : ℤ) → int_eq ((jx -ℤ ix) *ℤ (jy -ℤ iy) -ℤ (jy -ℤ iy) *ℤ (jx -ℤ ix)) (pos 0) ≡ true
      in_line ix iy jx jy = rw (product_swapped (jx -ℤ ix) (jy -ℤ iy)) (zero ((jy -ℤ iy) *ℤ (jx -ℤ ix)))

-- Spots: points of a line by a multiple of its direction, over one denominator; and extents between two of them.
--
-- p + t d, where t is a fraction, has the coordinates (p.x den + num d.x) / den and (p.y den + num d.y) / den. Kept
-- so,
-- unreduced, over the denominator of t, spots are compared and lie in boxes by products alone.
--
-- A wall is hit where its line meets the ray. Over the denominator the hit is a mean of the wall's ends, weighed by
-- the
-- sides on which they lie, which are opposite: so it lies in each box that holds both ends. A corner that the ray
-- reaches
-- is a multiple of the direction, over the square of its length. The line through a box's point, or between two of
-- them,
-- doesn't have the box strictly on one side. So an extent that ends in a box meets it.
use Rattle.std.proofs.Common.{◌≡◌, ◌∙◌, Bool, true, false, not, ◌&&◌, ◌||◌, ℤ, pos, neg_ℤ, ◌+ℤ◌, ◌-ℤ◌, ◌*ℤ◌}
use Rattle.std.proofs.Common.{◌≤ℤ◌, ◌<ℤ◌, ℕ, arith, sym}
use Rattle.std.specs.Prelude.{int_le}
use Rattle.std.proofs.lemmas.Int.{ints}
use borrow.Author.Differences.{up, down}
use Rattle.int_laws.proofs.Ring.{diff, is_diff, product_diff, minus_diff, sum_diff, same_diff, times_zero}
use Rattle.plane_spec.specs.declared.Point.{Point}
use Rattle.plane_spec.specs.declared.PlanBox.{PlanBox}
use Rattle.plane_spec.specs.Vectors.{vector, cross_of, orient_of}
use Rattle.plane_spec.specs.Fractions.{Fraction}
use Rattle.plane_spec.specs.Boxes.{is_box_left_of_line, reaches_line}
use Rattle.box_laws.specs.Boxes.{IsIn}
use Rattle.box_laws.proofs.Touching.{order_stays, order_turns, left_in_box, line_turned, not_true}

-- ---- spots

-- the place (x/w, y/w)
pub record Spot : Type 0 where
  pub x : ℤ
  pub y : ℤ
  pub w : ℤ

-- p + t d
abbrev pub spot_at : Point → Point → Fraction → Spot
spot_at p d t = record { x = p.x *ℤ t.den +ℤ t.num *ℤ d.x; y = p.y *ℤ t.den +ℤ t.num *ℤ d.y; w = t.den }

-- the interval from m/v or n/w to the other shares a number with the one from low to high
abbrev pub spots_overlap : ℤ → ℤ → ℤ → ℤ → ℤ → ℤ → Bool
spots_overlap m v n w low high =
    (int_le (low *ℤ v) m || int_le (low *ℤ w) n) && (int_le m (high *ℤ v) || int_le n (high *ℤ w))

-- the part between two spots of the line through a and b meets the box
unfoldable pub spots_meet_box : Point → Point → Spot → Spot → PlanBox → Bool
spots_meet_box a b from to box =
    (spots_overlap from.x from.w to.x to.w box.low.x box.high.x && spots_overlap from.y from.w to.y to.w box.low.y
    box.high.y) && reaches_line a b box

-- over a positive denominator
pub record IsPositive (t : Fraction) : Type 0 where
  pub den : pos 0 <ℤ t.den

-- the two orientations of a line are opposite
turned_line : (p q x : Point) → orient_of q p x +ℤ orient_of p q x ≡ pos 0
turned_line p q x = rw (line_turned p q x) (none (orient_of p q x))
  where
    none : (o : ℤ) → neg_ℤ o +ℤ o ≡ pos 0
    none o = omega (arith, ints)

-- ---- a place in a box
pub record SpotIn (e : Spot) (box : PlanBox) : Type 0 where
  pub left : (box.low.x *ℤ e.w) ≤ℤ e.x
  pub right : e.x ≤ℤ (box.high.x *ℤ e.w)
  pub below : (box.low.y *ℤ e.w) ≤ℤ e.y
  pub above : e.y ≤ℤ (box.high.y *ℤ e.w)

-- the hit of a wall as a mean of its ends, across, over differences of naturals
hit_x_diff : (a b c d e f g h i j k l m n o r : ℕ) →
    diff a b *ℤ ((diff e f *ℤ (diff o r -ℤ diff c d) -ℤ diff g h *ℤ (diff m n -ℤ diff a b))
    -ℤ (diff e f *ℤ (diff k l -ℤ diff c d) -ℤ diff g h *ℤ (diff i j -ℤ diff a b)))
    +ℤ ((diff m n -ℤ diff i j) *ℤ (diff c d -ℤ diff k l) -ℤ (diff o r -ℤ diff k l) *ℤ (diff a b -ℤ diff i j))
    *ℤ diff e f
    ≡ (diff e f *ℤ (diff o r -ℤ diff c d) -ℤ diff g h *ℤ (diff m n -ℤ diff a b)) *ℤ diff i j
    -ℤ (diff e f *ℤ (diff k l -ℤ diff c d) -ℤ diff g h *ℤ (diff i j -ℤ diff a b)) *ℤ diff m n
hit_x_diff a b c d e f g h i j k l m n o r =
    simp (product_diff, minus_diff, sum_diff) (same_diff _ _ _ _ (omega arith))

-- and upwards
hit_y_diff : (a b c d e f g h i j k l m n o r : ℕ) →
    diff c d *ℤ ((diff e f *ℤ (diff o r -ℤ diff c d) -ℤ diff g h *ℤ (diff m n -ℤ diff a b))
    -ℤ (diff e f *ℤ (diff k l -ℤ diff c d) -ℤ diff g h *ℤ (diff i j -ℤ diff a b)))
    +ℤ ((diff m n -ℤ diff i j) *ℤ (diff c d -ℤ diff k l) -ℤ (diff o r -ℤ diff k l) *ℤ (diff a b -ℤ diff i j))
    *ℤ diff g h
    ≡ (diff e f *ℤ (diff o r -ℤ diff c d) -ℤ diff g h *ℤ (diff m n -ℤ diff a b)) *ℤ diff k l
    -ℤ (diff e f *ℤ (diff k l -ℤ diff c d) -ℤ diff g h *ℤ (diff i j -ℤ diff a b)) *ℤ diff o r
hit_y_diff a b c d e f g h i j k l m n o r =
    simp (product_diff, minus_diff, sum_diff) (same_diff _ _ _ _ (omega arith))

-- the hit of a wall as a mean of its ends, across
hit_x : (px py dx dy ax ay bx by : ℤ) →
    px *ℤ ((dx *ℤ (by -ℤ py) -ℤ dy *ℤ (bx -ℤ px)) -ℤ (dx *ℤ (ay -ℤ py) -ℤ dy *ℤ (ax -ℤ px)))
    +ℤ ((bx -ℤ ax) *ℤ (py -ℤ ay) -ℤ (by -ℤ ay) *ℤ (px -ℤ ax)) *ℤ dx
    ≡ (dx *ℤ (by -ℤ py) -ℤ dy *ℤ (bx -ℤ px)) *ℤ ax -ℤ (dx *ℤ (ay -ℤ py) -ℤ dy *ℤ (ax -ℤ px)) *ℤ bx
hit_x px py dx dy ax ay bx by =
    rw (is_diff px, is_diff py, is_diff dx, is_diff dy, is_diff ax, is_diff ay, is_diff bx, is_diff by)
    (hit_x_diff (up px) (down px) (up py) (down py) (up dx) (down dx) (up dy) (down dy) (up ax) (down ax) (up ay)
    (down ay) (up bx) (down bx) (up by) (down by))

-- and upwards
hit_y : (px py dx dy ax ay bx by : ℤ) →
    py *ℤ ((dx *ℤ (by -ℤ py) -ℤ dy *ℤ (bx -ℤ px)) -ℤ (dx *ℤ (ay -ℤ py) -ℤ dy *ℤ (ax -ℤ px)))
    +ℤ ((bx -ℤ ax) *ℤ (py -ℤ ay) -ℤ (by -ℤ ay) *ℤ (px -ℤ ax)) *ℤ dy
    ≡ (dx *ℤ (by -ℤ py) -ℤ dy *ℤ (bx -ℤ px)) *ℤ ay -ℤ (dx *ℤ (ay -ℤ py) -ℤ dy *ℤ (ax -ℤ px)) *ℤ by
hit_y px py dx dy ax ay bx by =
    rw (is_diff px, is_diff py, is_diff dx, is_diff dy, is_diff ax, is_diff ay, is_diff bx, is_diff by)
    (hit_y_diff (up px) (down px) (up py) (down py) (up dx) (down dx) (up dy) (down dy) (up ax) (down ax) (up ay)
    (down ay) (up bx) (down bx) (up by) (down by))

-- a product with a difference, over differences of naturals
spread_diff : (a b c d e f : ℕ) → diff e f *ℤ (diff a b -ℤ diff c d) ≡ diff a b *ℤ diff e f -ℤ diff c d *ℤ diff e f
spread_diff a b c d e f = simp (product_diff, minus_diff) (same_diff _ _ _ _ (omega arith))

-- a product with a difference
spread_m : (v u m : ℤ) → m *ℤ (v -ℤ u) ≡ v *ℤ m -ℤ u *ℤ m
spread_m v u m = rw (is_diff v, is_diff u, is_diff m) (spread_diff (up v) (down v) (up u) (down u) (up m) (down m))

-- a mean with positive weights isn't below what neither end is below
mean_low : (u v a b m z : ℤ) → u <ℤ pos 0 → pos 0 <ℤ v → m ≤ℤ a → m ≤ℤ b → z ≡ v *ℤ a -ℤ u *ℤ b → (m *ℤ (v -ℤ u)) ≤ℤ z
mean_low u v a b m z h k i j e =
    by (m *ℤ (v -ℤ u)) (v *ℤ m) (u *ℤ m) (v *ℤ a) (u *ℤ b) z (spread_m v u m) e
    (order_stays v m a (omega (arith, ints)) i) (order_turns u m b (omega (arith, ints)) j)
  where
    by : (s vm um va ub z : ℤ) → s ≡ vm -ℤ um → z ≡ va -ℤ ub → vm ≤ℤ va → ub ≤ℤ um → s ≤ℤ z
    by s vm um va ub z e f h k = omega (arith, ints)

-- nor above what neither end is above
mean_high : (u v a b m z : ℤ) → u <ℤ pos 0 → pos 0 <ℤ v → a ≤ℤ m → b ≤ℤ m → z ≡ v *ℤ a -ℤ u *ℤ b
    → z ≤ℤ (m *ℤ (v -ℤ u))
mean_high u v a b m z h k i j e =
    by (m *ℤ (v -ℤ u)) (v *ℤ m) (u *ℤ m) (v *ℤ a) (u *ℤ b) z (spread_m v u m) e
    (order_stays v a m (omega (arith, ints)) i) (order_turns u b m (omega (arith, ints)) j)
  where
    by : (s vm um va ub z : ℤ) → s ≡ vm -ℤ um → z ≡ va -ℤ ub → va ≤ℤ vm → um ≤ℤ ub → z ≤ℤ s
    by s vm um va ub z e f h k = omega (arith, ints)

-- a wall that a ray meets between ends in a box is hit in the box
pub hit_in : (p d a b : Point) (box : PlanBox) → IsIn box a → IsIn box b → cross_of d (vector p a) <ℤ pos 0
    → pos 0 <ℤ cross_of d (vector p b)
    → SpotIn (spot_at p d (record {
      num = orient_of a b p;
      den = cross_of d (vector p b) -ℤ cross_of d (vector p a);
    })) box
hit_in p d a b box i j h k =
    let ex = hit_x p.x p.y d.x d.y a.x a.y b.x b.y in
    let ey = hit_y p.x p.y d.x d.y a.x a.y b.x b.y in
    record {
      left = mean_low _ _ a.x b.x box.low.x _ h k i.left j.left ex;
      right = mean_high _ _ a.x b.x box.high.x _ h k i.right j.right ex;
      below = mean_low _ _ a.y b.y box.low.y _ h k i.below j.below ey;
      above = mean_high _ _ a.y b.y box.high.y _ h k i.above j.above ey;
    }

-- ---- sides of the line through i and j
-- the side of a line seen from its second point, over differences of naturals
along_line_diff : (a b c d e f g h i j k l : ℕ) →
    (diff e f -ℤ diff a b) *ℤ (diff k l -ℤ diff c d) -ℤ (diff g h -ℤ diff c d) *ℤ (diff i j -ℤ diff a b)
    ≡ (diff e f -ℤ diff a b) *ℤ (diff k l -ℤ diff g h) -ℤ (diff g h -ℤ diff c d) *ℤ (diff i j -ℤ diff e f)
along_line_diff a b c d e f g h i j k l = simp (product_diff, minus_diff) (same_diff _ _ _ _ (omega arith))

-- the side of a line seen from its second point, by coordinates
along_line_z : (ix iy jx jy xx xy : ℤ)
    → (jx -ℤ ix) *ℤ (xy -ℤ iy) -ℤ (jy -ℤ iy) *ℤ (xx -ℤ ix) ≡ (jx -ℤ ix) *ℤ (xy -ℤ jy) -ℤ (jy -ℤ iy) *ℤ (xx -ℤ jx)
along_line_z ix iy jx jy xx xy =
    rw (is_diff ix, is_diff iy, is_diff jx, is_diff jy, is_diff xx, is_diff xy)
    (along_line_diff (up ix) (down ix) (up iy) (down iy) (up jx) (down jx) (up jy) (down jy) (up xx) (down xx)
    (up xy) (down xy))

-- the side of a line seen from its second point
pub along_line : (i j x : Point) → orient_of i j x ≡ cross_of (vector i j) (vector j x)
along_line i j x = along_line_z i.x i.y j.x j.y x.x x.y

-- a corner as a multiple of the direction, across, over differences of naturals
reach_x_diff : (a b c d e f g h i j k l : ℕ) →
    diff e f *ℤ (diff a b *ℤ diff a b +ℤ diff c d *ℤ diff c d)
    +ℤ (diff a b *ℤ (diff i j -ℤ diff e f) +ℤ diff c d *ℤ (diff k l -ℤ diff g h)) *ℤ diff a b
    ≡ diff i j *ℤ (diff a b *ℤ diff a b +ℤ diff c d *ℤ diff c d) +ℤ diff c d
    *ℤ (diff a b *ℤ (diff k l -ℤ diff g h) -ℤ diff c d *ℤ (diff i j -ℤ diff e f))
reach_x_diff a b c d e f g h i j k l = simp (product_diff, minus_diff, sum_diff) (same_diff _ _ _ _ (omega arith))

-- and upwards
reach_y_diff : (a b c d e f g h i j k l : ℕ) →
    diff g h *ℤ (diff a b *ℤ diff a b +ℤ diff c d *ℤ diff c d)
    +ℤ (diff a b *ℤ (diff i j -ℤ diff e f) +ℤ diff c d *ℤ (diff k l -ℤ diff g h)) *ℤ diff c d
    +ℤ diff a b *ℤ (diff a b *ℤ (diff k l -ℤ diff g h) -ℤ diff c d *ℤ (diff i j -ℤ diff e f))
    ≡ diff k l *ℤ (diff a b *ℤ diff a b +ℤ diff c d *ℤ diff c d)
reach_y_diff a b c d e f g h i j k l = simp (product_diff, minus_diff, sum_diff) (same_diff _ _ _ _ (omega arith))

-- a corner as a multiple of the direction, and what it is beside the line, across
reach_x_z : (dx dy jx jy cx cy : ℤ)
    → jx *ℤ (dx *ℤ dx +ℤ dy *ℤ dy) +ℤ (dx *ℤ (cx -ℤ jx) +ℤ dy *ℤ (cy -ℤ jy)) *ℤ dx
    ≡ cx *ℤ (dx *ℤ dx +ℤ dy *ℤ dy) +ℤ dy *ℤ (dx *ℤ (cy -ℤ jy) -ℤ dy *ℤ (cx -ℤ jx))
reach_x_z dx dy jx jy cx cy =
    rw (is_diff dx, is_diff dy, is_diff jx, is_diff jy, is_diff cx, is_diff cy)
    (reach_x_diff (up dx) (down dx) (up dy) (down dy) (up jx) (down jx) (up jy) (down jy) (up cx) (down cx) (up cy)
    (down cy))

-- and upwards
reach_y_z : (dx dy jx jy cx cy : ℤ)
    → jy *ℤ (dx *ℤ dx +ℤ dy *ℤ dy) +ℤ (dx *ℤ (cx -ℤ jx) +ℤ dy *ℤ (cy -ℤ jy)) *ℤ dy +ℤ dx *ℤ
    (dx *ℤ (cy -ℤ jy) -ℤ dy *ℤ (cx -ℤ jx)) ≡ cy *ℤ (dx *ℤ dx +ℤ dy *ℤ dy)
reach_y_z dx dy jx jy cx cy =
    rw (is_diff dx, is_diff dy, is_diff jx, is_diff jy, is_diff cx, is_diff cy)
    (reach_y_diff (up dx) (down dx) (up dy) (down dy) (up jx) (down jx) (up jy) (down jy) (up cx) (down cx) (up cy)
    (down cy))

-- what is times 0 is gone
gone : (s d z : ℤ) → z ≡ pos 0 → s +ℤ d *ℤ z ≡ s
gone s d z h = rw (h, times_zero d) (plain s)
  where
    plain : (s : ℤ) → s +ℤ pos 0 ≡ s
    plain s = omega (arith, ints)

-- the same, read the other way
gone_left : (s d z : ℤ) → z ≡ pos 0 → s ≡ s +ℤ d *ℤ z
gone_left s d z h = sym (gone s d z h)

-- neither side has the whole box
pub record Cut (i j : Point) (box : PlanBox) : Type 0 where
  pub ahead : is_box_left_of_line i j box ≡ false
  pub back : is_box_left_of_line j i box ≡ false

-- the line between a point of the box on the right and one on the left
pub cut_between : (i j a b : Point) (box : PlanBox) → IsIn box a → IsIn box b → orient_of i j a <ℤ pos 0
    → pos 0 <ℤ orient_of i j b → Cut i j box
cut_between i j a b box ia ib h k =
    record {
      ahead = not_true _ (λ t. two _ h (left_in_box i j a box ia t));
      back = not_true _ (λ t. two_back _ _ (turned_line i j b) k (left_in_box j i b box ib t));
    }
  where
    two : (o : ℤ) → o <ℤ pos 0 → pos 0 <ℤ o → ⊥
    two o h k = omega (arith, ints)

    two_back : (o r : ℤ) → r +ℤ o ≡ pos 0 → pos 0 <ℤ o → pos 0 <ℤ r → ⊥
    two_back o r e h k = omega (arith, ints)

-- the line through a point of the box
pub cut_at : (i j x : Point) (box : PlanBox) → IsIn box x → orient_of i j x ≡ pos 0 → Cut i j box
cut_at i j x box ix h =
    record {
      ahead = not_true _ (λ t. one _ h (left_in_box i j x box ix t));
      back = not_true _ (λ t. one_back _ _ (turned_line i j x) h (left_in_box j i x box ix t));
    }
  where
    one : (o : ℤ) → o ≡ pos 0 → pos 0 <ℤ o → ⊥
    one o h k = omega (arith, ints)

    one_back : (o r : ℤ) → r +ℤ o ≡ pos 0 → o ≡ pos 0 → pos 0 <ℤ r → ⊥
    one_back o r e h k = omega (arith, ints)

-- an extent that ends in the box meets it
pub ending_meets : (i j : Point) (from to : Spot) (box : PlanBox) → SpotIn to box → Cut i j box
    → spots_meet_box i j from to box ≡ true
unfolding spots_meet_box
ending_meets i j from to box e c =
    by _ _ _ _ _ _ _ _ _ _ (to_true _ _ e.left) (to_true _ _ e.right) (to_true _ _ e.below)
    (to_true _ _ e.above) c.ahead c.back
  where
    to_true : (s t : ℤ) → s ≤ℤ t → int_le s t ≡ true
    to_true s t h = grind (arith, ints)

    by : (a b c d e f g h s t : Bool) → b ≡ true → d ≡ true → f ≡ true → h ≡ true → s ≡ false → t ≡ false
        → ((((a || b) && (c || d)) && ((e || f) && (g || h))) && (not s && not t)) ≡ true
    by a b c d e f g h s t i j k l m n = rw (i, j, k, l, m, n) (plain a c e g)
      where
        plain : (a c e g : Bool) → ((((a || true) && (c || true)) && ((e || true) && (g || true))) && true) ≡ true
        plain a c e g = grind arith

-- a corner on the line as a multiple of the direction, across
pub reach_x : (dx dy jx jy cx cy : ℤ) → dx *ℤ (cy -ℤ jy) -ℤ dy *ℤ (cx -ℤ jx) ≡ pos 0
    → jx *ℤ (dx *ℤ dx +ℤ dy *ℤ dy) +ℤ (dx *ℤ (cx -ℤ jx) +ℤ dy *ℤ (cy -ℤ jy)) *ℤ dx ≡ cx *ℤ (dx *ℤ dx +ℤ dy *ℤ dy)
reach_x dx dy jx jy cx cy h = reach_x_z dx dy jx jy cx cy ∙ gone (cx *ℤ (dx *ℤ dx +ℤ dy *ℤ dy)) dy _ h

-- and upwards
pub reach_y : (dx dy jx jy cx cy : ℤ) → dx *ℤ (cy -ℤ jy) -ℤ dy *ℤ (cx -ℤ jx) ≡ pos 0
    → jy *ℤ (dx *ℤ dx +ℤ dy *ℤ dy) +ℤ (dx *ℤ (cx -ℤ jx) +ℤ dy *ℤ (cy -ℤ jy)) *ℤ dy ≡ cy *ℤ (dx *ℤ dx +ℤ dy *ℤ dy)
reach_y dx dy jx jy cx cy h =
    gone_left (jy *ℤ (dx *ℤ dx +ℤ dy *ℤ dy) +ℤ (dx *ℤ (cx -ℤ jx) +ℤ dy *ℤ (cy -ℤ jy)) *ℤ dy) dx _ h
    ∙ reach_y_z dx dy jx jy cx cy

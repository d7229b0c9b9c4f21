-- Extents with the same ends meet the same boxes.
--
-- Two lines may go through different corners and yet end at the same two spots, over other denominators. Seen from
-- any
-- point c, the two ends of the extent through i and j turn as i and j do, times a positive factor that depends on how
-- far
-- the extent goes beyond each. Over other denominators the turn of the ends is the same but for a positive factor. So
-- c lies
-- left of the line through i and j exactly where it lies left of the line through k and l, and a box is on one side
-- of the
-- one exactly where it is of the other. In each coordinate the two extents are intervals between the same fractions.
use Rattle.std.proofs.Common.{◌≡◌, ◌∙◌, Bool, not, ◌&&◌, ℤ, pos, ◌+ℤ◌, ◌-ℤ◌, ◌*ℤ◌}
use Rattle.std.proofs.Common.{◌≤ℤ◌, ◌<ℤ◌, ℕ, arith, refl, sym, ap, subst}
use Rattle.std.specs.Prelude.{int_lt, int_le}
use Rattle.std.proofs.lemmas.Int.{ints}
use borrow.Author.Differences.{up, down}
use Rattle.int_laws.proofs.Ring.{diff, is_diff, product_diff, minus_diff, sum_diff, same_diff}
use Rattle.int_laws.proofs.Ring.{product_swapped, orient_cycled}
use Rattle.int_laws.proofs.Signs.{positive_product, not_negative_product}
use Rattle.plane_spec.specs.declared.Point.{Point}
use Rattle.plane_spec.specs.declared.PlanBox.{PlanBox}
use Rattle.plane_spec.specs.Vectors.{vector, orient_of}
use Rattle.plane_spec.specs.Fractions.{Fraction}
use Rattle.plane_spec.specs.Boxes.{is_box_left_of_line}
use Rattle.spot_laws.proofs.Spots.{Spot, spot_at, spots_overlap, spots_meet_box, IsPositive}
use Rattle.spot_laws.proofs.Factors.{not_negative, same_sign, low_same, high_same}
use Rattle.box_laws.proofs.Held.{overlap_turned}

-- ---- the cross product of two combinations
-- the same over differences of naturals
scaled_diff : (a b c d e f g h i j k l m n o r : ℕ) →
    (diff a b *ℤ diff i j -ℤ diff c d *ℤ diff m n) *ℤ (diff e f *ℤ diff o r -ℤ diff g h *ℤ diff k l)
    -ℤ (diff a b *ℤ diff k l -ℤ diff c d *ℤ diff o r) *ℤ (diff e f *ℤ diff m n -ℤ diff g h *ℤ diff i j)
    ≡ (diff a b *ℤ diff e f -ℤ diff c d *ℤ diff g h) *ℤ (diff i j *ℤ diff o r -ℤ diff k l *ℤ diff m n)
scaled_diff a b c d e f g h i j k l m n o r = simp (product_diff, minus_diff) (same_diff _ _ _ _ (omega arith))

-- (m A - n B) x (q B - r A) = (m q - n r) A x B
scaled : (m n q r ax ay bx by : ℤ)
    → (m *ℤ ax -ℤ n *ℤ bx) *ℤ (q *ℤ by -ℤ r *ℤ ay) -ℤ (m *ℤ ay -ℤ n *ℤ by) *ℤ (q *ℤ bx -ℤ r *ℤ ax)
    ≡ (m *ℤ q -ℤ n *ℤ r) *ℤ (ax *ℤ by -ℤ ay *ℤ bx)
scaled m n q r ax ay bx by =
    rw (is_diff m, is_diff n, is_diff q, is_diff r, is_diff ax, is_diff ay, is_diff bx, is_diff by)
    (scaled_diff (up m) (down m) (up n) (down n) (up q) (down q) (up r) (down r) (up ax) (down ax) (up ay) (down ay)
    (up bx) (down bx) (up by) (down by))

-- an end beyond i seen from c, over differences of naturals
from_c_diff : (a b c d e f g h i j : ℕ) →
    (diff e f *ℤ diff a b +ℤ diff c d *ℤ (diff e f -ℤ diff g h)) -ℤ diff a b *ℤ diff i j ≡ (diff a b +ℤ diff c d)
    *ℤ (diff e f -ℤ diff i j) -ℤ diff c d *ℤ (diff g h -ℤ diff i j)
from_c_diff a b c d e f g h i j = simp (product_diff, minus_diff, sum_diff) (same_diff _ _ _ _ (omega arith))

-- an end beyond i seen from c
from_c : (sd sn i j c : ℤ) → (i *ℤ sd +ℤ sn *ℤ (i -ℤ j)) -ℤ sd *ℤ c ≡ (sd +ℤ sn) *ℤ (i -ℤ c) -ℤ sn *ℤ (j -ℤ c)
from_c sd sn i j c =
    rw (is_diff sd, is_diff sn, is_diff i, is_diff j, is_diff c)
    (from_c_diff (up sd) (down sd) (up sn) (down sn) (up i) (down i) (up j) (down j) (up c) (down c))

-- the cross product of two multiples, over differences of naturals
weights_diff : (a b c d e f g h i j k l : ℕ)
    → (diff a b *ℤ diff e f) *ℤ (diff c d *ℤ diff k l) -ℤ (diff a b *ℤ diff g h) *ℤ (diff c d *ℤ diff i j)
    ≡ (diff a b *ℤ diff c d) *ℤ (diff e f *ℤ diff k l -ℤ diff g h *ℤ diff i j)
weights_diff a b c d e f g h i j k l = simp (product_diff, minus_diff) (same_diff _ _ _ _ (omega arith))

-- the cross product of two multiples
weights : (v w fx fy tx ty : ℤ)
    → (v *ℤ fx) *ℤ (w *ℤ ty) -ℤ (v *ℤ fy) *ℤ (w *ℤ tx) ≡ (v *ℤ w) *ℤ (fx *ℤ ty -ℤ fy *ℤ tx)
weights v w fx fy tx ty = rw (is_diff v, is_diff w, is_diff fx, is_diff fy, is_diff tx, is_diff ty)
    (weights_diff (up v) (down v) (up w) (down w) (up fx) (down fx) (up fy) (down fy) (up tx) (down tx) (up ty)
    (down ty))

-- how the second spot turns from the first, seen from a point, times both denominators
abbrev seen_from : Spot → Spot → ℤ → ℤ → ℤ
seen_from f t cx cy = (f.x -ℤ f.w *ℤ cx) *ℤ (t.y -ℤ t.w *ℤ cy) -ℤ (f.y -ℤ f.w *ℤ cy) *ℤ (t.x -ℤ t.w *ℤ cx)

-- by which the ends turn more than the two points do
abbrev factor : Fraction → Fraction → ℤ
factor s t = (s.den +ℤ s.num) *ℤ (t.den +ℤ t.num) -ℤ s.num *ℤ t.num

-- seen from c, the ends turn as the points do, times the factor
ends_seen : (i j c : Point) (s t : Fraction)
    → seen_from (spot_at i (vector j i) s) (spot_at j (vector i j) t) c.x c.y ≡ factor s t *ℤ orient_of i j c
ends_seen i j c s t =
    rw (
      from_c s.den s.num i.x j.x c.x,
      from_c s.den s.num i.y j.y c.y,
      from_c t.den t.num j.x i.x c.x,
      from_c t.den t.num j.y i.y c.y,
    )
    (scaled (s.den +ℤ s.num) s.num (t.den +ℤ t.num) t.num (i.x -ℤ c.x) (i.y -ℤ c.y) (j.x -ℤ c.x) (j.y -ℤ c.y)
    ∙ ap (λ z. factor s t *ℤ z) (sym (orient_cycled c.x c.y i.x i.y j.x j.y)))

-- the factor multiplied out, over differences of naturals
factor_diff : (a b c d e f g h : ℕ)
    → (diff a b +ℤ diff c d) *ℤ (diff e f +ℤ diff g h) -ℤ diff c d *ℤ diff g h
    ≡ diff a b *ℤ diff e f +ℤ (diff a b *ℤ diff g h +ℤ diff c d *ℤ diff e f)
factor_diff a b c d e f g h = simp (product_diff, minus_diff, sum_diff) (same_diff _ _ _ _ (omega arith))

-- the factor is positive
factor_positive : (sd sn td tn : ℤ) → pos 0 <ℤ sd → pos 0 ≤ℤ sn → pos 0 <ℤ td → pos 0 ≤ℤ tn
    → pos 0 <ℤ ((sd +ℤ sn) *ℤ (td +ℤ tn) -ℤ sn *ℤ tn)
factor_positive sd sn td tn a b c d =
    subst (λ z. pos 0 <ℤ z) (sym (opened sd sn td tn))
    (sum _ _ _ (positive_product sd td a c) (not_negative_product sd tn (not_negative _ a) d)
    (not_negative_product sn td b (not_negative _ c)))
  where
    opened : (sd sn td tn : ℤ) → (sd +ℤ sn) *ℤ (td +ℤ tn) -ℤ sn *ℤ tn ≡ sd *ℤ td +ℤ (sd *ℤ tn +ℤ sn *ℤ td)
    opened sd sn td tn =
        rw (is_diff sd, is_diff sn, is_diff td, is_diff tn)
        (factor_diff (up sd) (down sd) (up sn) (down sn) (up td) (down td) (up tn) (down tn))

    sum : (x y z : ℤ) → pos 0 <ℤ x → pos 0 ≤ℤ y → pos 0 ≤ℤ z → pos 0 <ℤ (x +ℤ (y +ℤ z))
    sum x y z h k l = omega (arith, ints)

-- the same point, over different weights
pub record SameSpot (p q : Spot) : Type 0 where
  pub x : p.x *ℤ q.w ≡ q.x *ℤ p.w
  pub y : p.y *ℤ q.w ≡ q.y *ℤ p.w

-- an end less c, times a number, over differences of naturals
rel_same_diff : (a b c d e f g h : ℕ)
    → diff c d *ℤ (diff e f -ℤ diff g h *ℤ diff a b) ≡ diff e f *ℤ diff c d -ℤ (diff g h *ℤ diff c d) *ℤ diff a b
rel_same_diff a b c d e f g h = simp (product_diff, minus_diff) (same_diff _ _ _ _ (omega arith))

-- an end less c, times a number
rel_open : (c w x v : ℤ) → w *ℤ (x -ℤ v *ℤ c) ≡ x *ℤ w -ℤ (v *ℤ w) *ℤ c
rel_open c w x v =
    rw (is_diff c, is_diff w, is_diff x, is_diff v)
    (rel_same_diff (up c) (down c) (up w) (down w) (up x) (down x) (up v) (down v))

-- one spot less c, over either denominator
rel_same : (x v y w c : ℤ) → x *ℤ w ≡ y *ℤ v → w *ℤ (x -ℤ v *ℤ c) ≡ v *ℤ (y -ℤ w *ℤ c)
rel_same x v y w c h = rel_open c w x v ∙ rw (h, product_swapped v w) refl ∙ sym (rel_open c v y w)

-- the same spots turn alike, up to their denominators
seen_same : (f t g u : Spot) (cx cy : ℤ) → SameSpot f g → SameSpot t u
    → (g.w *ℤ u.w) *ℤ seen_from f t cx cy ≡ (f.w *ℤ t.w) *ℤ seen_from g u cx cy
seen_same f t g u cx cy h k =
    sym (weights g.w u.w (f.x -ℤ f.w *ℤ cx) (f.y -ℤ f.w *ℤ cy) (t.x -ℤ t.w *ℤ cx) (t.y -ℤ t.w *ℤ cy))
    ∙ rw (
      rel_same f.x f.w g.x g.w cx h.x,
      rel_same f.y f.w g.y g.w cy h.y,
      rel_same t.x t.w u.x u.w cx k.x,
      rel_same t.y t.w u.y u.w cy k.y,
    ) refl
    ∙ weights f.w t.w (g.x -ℤ g.w *ℤ cx) (g.y -ℤ g.w *ℤ cy) (u.x -ℤ u.w *ℤ cx) (u.y -ℤ u.w *ℤ cy)

-- a line by its two corners and how far it goes beyond each
pub record IsExtent (s t : Fraction) : Type 0 where
  pub before : IsPositive s
  pub after : IsPositive t
  pub back : pos 0 ≤ℤ s.num
  pub on : pos 0 ≤ℤ t.num

-- the extent from its other end
pub turned : {s t : Fraction} → IsExtent s t → IsExtent t s
turned e = record { before = e.after; after = e.before; back = e.on; on = e.back }

-- a point lies left of both lines or of neither
pub side_same : (i j k l c : Point) (s t u v : Fraction) → IsExtent s t → IsExtent u v
    → SameSpot (spot_at i (vector j i) s) (spot_at k (vector l k) u)
    → SameSpot (spot_at j (vector i j) t) (spot_at l (vector k l) v)
    → int_lt (pos 0) (orient_of i j c) ≡ int_lt (pos 0) (orient_of k l c)
side_same i j k l c s t u v a b f g =
    sym (same_sign (factor s t) (orient_of i j c)
    (factor_positive s.den s.num t.den t.num a.before.den a.back a.after.den a.on))
    ∙ ap (λ z. int_lt (pos 0) z) (sym (ends_seen i j c s t))
    ∙ sym (same_sign (u.den *ℤ v.den) _ (positive_product u.den v.den b.before.den b.after.den))
    ∙ ap (λ z. int_lt (pos 0) z) (seen_same (spot_at i (vector j i) s) (spot_at j (vector i j) t)
    (spot_at k (vector l k) u) (spot_at l (vector k l) v) c.x c.y f g)
    ∙ same_sign (s.den *ℤ t.den) _ (positive_product s.den t.den a.before.den a.after.den)
    ∙ ap (λ z. int_lt (pos 0) z) (ends_seen k l c u v)
    ∙ same_sign (factor u v) (orient_of k l c)
    (factor_positive u.den u.num v.den v.num b.before.den b.back b.after.den b.on)

-- so does a box
pub left_same : (i j k l : Point) (s t u v : Fraction) (box : PlanBox) → IsExtent s t → IsExtent u v
    → SameSpot (spot_at i (vector j i) s) (spot_at k (vector l k) u)
    → SameSpot (spot_at j (vector i j) t) (spot_at l (vector k l) v)
    → is_box_left_of_line i j box ≡ is_box_left_of_line k l box
unfolding is_box_left_of_line
left_same i j k l s t u v box a b f g =
    rw (
      side_same i j k l (record { x = box.low.x; y = box.low.y }) s t u v a b f g,
      side_same i j k l (record { x = box.high.x; y = box.low.y }) s t u v a b f g,
      side_same i j k l (record { x = box.high.x; y = box.high.y }) s t u v a b f g,
      side_same i j k l (record { x = box.low.x; y = box.high.y }) s t u v a b f g,
    ) refl

-- ---- the overlap, over other denominators

-- intervals between the same fractions overlap alike
overlap_same : (fm fv tm tv gm gv um uv low high : ℤ) → pos 0 <ℤ fv → pos 0 <ℤ tv → pos 0 <ℤ gv → pos 0 <ℤ uv
    → fm *ℤ gv ≡ gm *ℤ fv → tm *ℤ uv ≡ um *ℤ tv
    → spots_overlap fm fv tm tv low high ≡ spots_overlap gm gv um uv low high
overlap_same fm fv tm tv gm gv um uv low high a b c d h k =
    rw (
      low_same low fm fv gm gv a c h,
      low_same low tm tv um uv b d k,
      high_same high fm fv gm gv a c h,
      high_same high tm tv um uv b d k,
    ) refl

-- the same ends in the same order
pub extent_same : (i j k l : Point) (s t u v : Fraction) (box : PlanBox) → IsExtent s t → IsExtent u v
    → SameSpot (spot_at i (vector j i) s) (spot_at k (vector l k) u)
    → SameSpot (spot_at j (vector i j) t) (spot_at l (vector k l) v)
    → spots_meet_box i j (spot_at i (vector j i) s) (spot_at j (vector i j) t) box
    ≡ spots_meet_box k l (spot_at k (vector l k) u) (spot_at l (vector k l) v) box
unfolding spots_meet_box
extent_same i j k l s t u v box a b f g =
    all_same
    (overlap_same _ s.den _ t.den _ u.den _ v.den box.low.x box.high.x a.before.den a.after.den b.before.den
    b.after.den f.x g.x)
    (overlap_same _ s.den _ t.den _ u.den _ v.den box.low.y box.high.y a.before.den a.after.den b.before.den
    b.after.den f.y g.y)
    (left_same i j k l s t u v box a b f g)
    (left_same j i l k t s v u box (turned a) (turned b) g f)
  where
    all_same : {a b c d a' b' c' d' : Bool} → a ≡ a' → b ≡ b' → c ≡ c' → d ≡ d'
        → ((a && b) && (not c && not d)) ≡ ((a' && b') && (not c' && not d'))
    all_same h k l m = rw (h, k, l, m) refl

-- the extent the other way
pub extent_back : (i j : Point) (f t : Spot) (box : PlanBox) → spots_meet_box i j f t box ≡ spots_meet_box j i t f box
unfolding spots_meet_box
extent_back i j f t box =
    overlap_turned (int_le (box.low.x *ℤ t.w) t.x) (int_le (box.low.x *ℤ f.w) f.x) (int_le t.x (box.high.x *ℤ t.w))
    (int_le f.x (box.high.x *ℤ f.w)) (int_le (box.low.y *ℤ t.w) t.y) (int_le (box.low.y *ℤ f.w) f.y)
    (int_le t.y (box.high.y *ℤ t.w)) (int_le f.y (box.high.y *ℤ f.w)) (is_box_left_of_line j i box) (is_box_left_of_line i j box)

-- the same ends in the other order
pub extent_same_back : (i j k l : Point) (s t u v : Fraction) (box : PlanBox) → IsExtent s t → IsExtent u v
    → SameSpot (spot_at i (vector j i) s) (spot_at l (vector k l) v)
    → SameSpot (spot_at j (vector i j) t) (spot_at k (vector l k) u)
    → spots_meet_box i j (spot_at i (vector j i) s) (spot_at j (vector i j) t) box
    ≡ spots_meet_box k l (spot_at k (vector l k) u) (spot_at l (vector k l) v) box
extent_same_back i j k l s t u v box a b f g =
    extent_same i j l k s t v u box a (turned b) f g
    ∙ extent_back l k (spot_at l (vector k l) v) (spot_at k (vector l k) u) box

-- What lies between the ends of an extent.
--
-- The extent goes from i back by s and from j on by t, each in the direction away from the other. In each coordinate
-- it is
-- an interval between two fractions. A spot y on from j, not beyond t, has a coordinate between them: from j on the
-- coordinate moves one way, so at t it has moved at least as far as at y, and at s behind i it is on the other side
-- of y.
-- So where the spot y lies in the box, both intervals overlap the box's, and the extent meets it. Likewise the
-- segment from
-- i to j lies on the extent, so a box that it meets the extent meets.
use Rattle.std.proofs.Common.{◌≡◌, Bool, true, false, not, ◌&&◌, ◌||◌, ℤ, pos, neg_ℤ, ◌+ℤ◌, ◌-ℤ◌, ◌*ℤ◌}
use Rattle.std.proofs.Common.{◌≤ℤ◌, ◌<ℤ◌, ℕ, arith}
use Rattle.std.specs.Prelude.{int_le}
use Rattle.std.proofs.lemmas.Int.{ints, by_lt_z}
use borrow.Author.Differences.{up, down}
use Rattle.int_laws.proofs.Ring.{diff, is_diff, product_diff, sum_diff, same_diff}
use Rattle.int_laws.proofs.Ring.{product_swapped}
use Rattle.int_laws.proofs.Signs.{not_negative_product}
use Rattle.plane_spec.specs.declared.Point.{Point}
use Rattle.plane_spec.specs.declared.PlanBox.{PlanBox}
use Rattle.plane_spec.specs.Vectors.{vector}
use Rattle.plane_spec.specs.Fractions.{Fraction}
use Rattle.plane_spec.specs.Boxes.{do_intervals_overlap, does_meet_box}
use Rattle.box_laws.proofs.Touching.{order_stays, order_turns}
use Rattle.spot_laws.proofs.Spots.{spot_at, spots_overlap, spots_meet_box, IsPositive, SpotIn, Cut}
use Rattle.spot_laws.proofs.Factors.{not_negative, outer_exchanged, cancel_le, falling_product}

-- the same over differences of naturals
span_diff : (a b c d e f g h i j k l : ℕ) →
    diff a b *ℤ (diff c d *ℤ diff e f +ℤ diff g h *ℤ diff i j) +ℤ diff i j *ℤ (diff k l *ℤ diff e f)
    ≡ diff e f *ℤ (diff c d *ℤ diff a b +ℤ diff k l *ℤ diff i j) +ℤ diff i j *ℤ (diff g h *ℤ diff a b)
span_diff a b c d e f g h i j k l = simp (product_diff, sum_diff) (same_diff _ _ _ _ (omega arith))

-- td (j yd + yn d) + d (tn yd) = yd (j td + tn d) + d (yn td)
span : (td j yd yn d tn : ℤ) → td *ℤ (j *ℤ yd +ℤ yn *ℤ d) +ℤ d *ℤ (tn *ℤ yd) ≡ yd *ℤ (j *ℤ td +ℤ tn *ℤ d) +ℤ d *ℤ
    (yn *ℤ td)
span td j yd yn d tn =
    rw (is_diff td, is_diff j, is_diff yd, is_diff yn, is_diff d, is_diff tn)
    (span_diff (up td) (down td) (up j) (down j) (up yd) (down yd) (up yn) (down yn) (up d) (down d) (up tn)
    (down tn))

-- the order of integers
through : (a b c : ℤ) → a ≤ℤ b → b ≤ℤ c → a ≤ℤ c
through a b c h k = omega (arith, ints)

-- upwards: what isn't below low at y stays so further on, at t
further_up : (low j d yn yd tn td : ℤ) → pos 0 <ℤ yd → pos 0 <ℤ td → pos 0 ≤ℤ d → (yn *ℤ td) ≤ℤ (tn *ℤ yd)
    → (low *ℤ yd) ≤ℤ (j *ℤ yd +ℤ yn *ℤ d) → (low *ℤ td) ≤ℤ (j *ℤ td +ℤ tn *ℤ d)
further_up low j d yn yd tn td py pt pd le h =
    cancel_le yd _ _ py
    (by _ _ _ _ _ _ (span td j yd yn d tn) (order_stays d _ _ pd le) (order_stays td _ _ (not_negative _ pt) h)
    (outer_exchanged yd low td))
  where
    by : (tx dt yt dy ylt tly : ℤ) → tx +ℤ dt ≡ yt +ℤ dy → dy ≤ℤ dt → tly ≤ℤ tx → ylt ≡ tly → ylt ≤ℤ yt
    by tx dt yt dy ylt tly e h k l = omega (arith, ints)

-- downwards: what isn't above high at y stays so at t
further_down : (high j d yn yd tn td : ℤ) → pos 0 <ℤ yd → pos 0 <ℤ td → d ≤ℤ pos 0 → (yn *ℤ td) ≤ℤ (tn *ℤ yd)
    → (j *ℤ yd +ℤ yn *ℤ d) ≤ℤ (high *ℤ yd) → (j *ℤ td +ℤ tn *ℤ d) ≤ℤ (high *ℤ td)
further_down high j d yn yd tn td py pt pd le h =
    cancel_le yd _ _ py
    (by _ _ _ _ _ _ (span td j yd yn d tn) (order_turns d _ _ pd le) (order_stays td _ _ (not_negative _ pt) h)
    (outer_exchanged yd high td))
  where
    by : (tx dt yt dy yht thy : ℤ) → tx +ℤ dt ≡ yt +ℤ dy → dt ≤ℤ dy → tx ≤ℤ thy → yht ≡ thy → yt ≤ℤ yht
    by tx dt yt dy yht thy e h k l = omega (arith, ints)

-- upwards: what isn't above high at y wasn't so behind i
behind_up : (high i j d yn yd sn sd : ℤ) → pos 0 <ℤ yd → pos 0 <ℤ sd → pos 0 ≤ℤ sn → pos 0 ≤ℤ yn → pos 0 ≤ℤ d
    → i ≤ℤ j → (j *ℤ yd +ℤ yn *ℤ d) ≤ℤ (high *ℤ yd) → (i *ℤ sd +ℤ sn *ℤ neg_ℤ d) ≤ℤ (high *ℤ sd)
behind_up high i j d yn yd sn sd py ps sn_in yn_in pd ij h =
    let near : j ≤ℤ high = cancel_le yd j high py
    (low_part _ _ _ _ (product_swapped yd j) (product_swapped yd high)
    (not_negative_product yn d yn_in pd) h) in
    let back = falling_product sn (neg_ℤ d) sn_in (turned d pd) in
    let step = order_stays sd i high (not_negative _ ps) (through i j high ij near) in
    last _ _ _ _ _ (product_swapped sd i) (product_swapped sd high) back step
  where
    turned : (d : ℤ) → pos 0 ≤ℤ d → neg_ℤ d ≤ℤ pos 0
    turned d h = omega (arith, ints)

    low_part : (yj jy yh hy : ℤ) → {z : ℤ} → yj ≡ jy → yh ≡ hy → pos 0 ≤ℤ z → (jy +ℤ z) ≤ℤ hy → yj ≤ℤ yh
    low_part yj jy yh hy e f g h = omega (arith, ints)

    last : (si is sh hs z : ℤ) → si ≡ is → sh ≡ hs → z ≤ℤ pos 0 → si ≤ℤ sh → (is +ℤ z) ≤ℤ hs
    last si is sh hs z e f g h = omega (arith, ints)

-- downwards: what isn't below low at y wasn't so behind i
behind_down : (low i j d yn yd sn sd : ℤ) → pos 0 <ℤ yd → pos 0 <ℤ sd → pos 0 ≤ℤ sn → pos 0 ≤ℤ yn → d ≤ℤ pos 0
    → j ≤ℤ i → (low *ℤ yd) ≤ℤ (j *ℤ yd +ℤ yn *ℤ d) → (low *ℤ sd) ≤ℤ (i *ℤ sd +ℤ sn *ℤ neg_ℤ d)
behind_down low i j d yn yd sn sd py ps sn_in yn_in pd ij h =
    let near : low ≤ℤ j = cancel_le yd low j py
    (low_part _ _ _ _ (product_swapped yd j) (product_swapped yd low)
    (falling_product yn d yn_in pd) h) in
    let back = not_negative_product sn (neg_ℤ d) sn_in (turned d pd) in
    let step = order_stays sd low i (not_negative _ ps) (through low j i near ij) in
    last _ _ _ _ _ (product_swapped sd i) (product_swapped sd low) back step
  where
    turned : (d : ℤ) → d ≤ℤ pos 0 → pos 0 ≤ℤ neg_ℤ d
    turned d h = omega (arith, ints)

    low_part : (yj jy yl ly : ℤ) → {z : ℤ} → yj ≡ jy → yl ≡ ly → z ≤ℤ pos 0 → ly ≤ℤ (jy +ℤ z) → yl ≤ℤ yj
    low_part yj jy yl ly e f g h = omega (arith, ints)

    last : (si is sl ls z : ℤ) → si ≡ is → sl ≡ ls → pos 0 ≤ℤ z → sl ≤ℤ si → ls ≤ℤ (is +ℤ z)
    last si is sl ls z e f g h = omega (arith, ints)

-- ---- in one coordinate

-- an order passes its test
to_true : (s t : ℤ) → s ≤ℤ t → int_le s t ≡ true
to_true s t h = grind (arith, ints)

-- the first of two and the last of two others
first_and_last : (a b c d : Bool) → a ≡ true → d ≡ true → (a || b) && (c || d) ≡ true
first_and_last a b c d h k = grind arith

-- the last of two and the first of two others
last_and_first : (a b c d : Bool) → b ≡ true → c ≡ true → (a || b) && (c || d) ≡ true
last_and_first a b c d h k = grind arith

-- an interval that reaches as far as y on one side of j and behind i on the other overlaps what y is within
overlap_one : (i j yn yd sn sd tn td low high : ℤ) → pos 0 <ℤ yd → pos 0 <ℤ sd → pos 0 <ℤ td → pos 0 ≤ℤ sn
    → pos 0 ≤ℤ yn → (yn *ℤ td) ≤ℤ (tn *ℤ yd)
    → (low *ℤ yd) ≤ℤ (j *ℤ yd +ℤ yn *ℤ (j -ℤ i)) → (j *ℤ yd +ℤ yn *ℤ (j -ℤ i)) ≤ℤ (high *ℤ yd)
    → spots_overlap (i *ℤ sd +ℤ sn *ℤ (i -ℤ j)) sd (j *ℤ td +ℤ tn *ℤ (j -ℤ i)) td low high ≡ true
overlap_one i j yn yd sn sd tn td low high py ps pt sn_in yn_in le l h =
    rw (turned i j)
    (by_lt_z (j -ℤ i) (pos 0)
    (λ m. first_and_last _ _ _ _ (to_true _ _
    (behind_down low i j (j -ℤ i) yn yd sn sd py ps sn_in yn_in (weak_neg _ m) (less i j m) l))
    (to_true _ _ (further_down high j (j -ℤ i) yn yd tn td py pt (weak_neg _ m) le h)))
    (λ m. last_and_first _ _ _ _ (to_true _ _ (further_up low j (j -ℤ i) yn yd tn td py pt m le l))
    (to_true _ _ (behind_up high i j (j -ℤ i) yn yd sn sd py ps sn_in yn_in m (more i j m) h))))
  where
    turned : (i j : ℤ) → i -ℤ j ≡ neg_ℤ (j -ℤ i)
    turned i j = omega (arith, ints)

    weak_neg : (z : ℤ) → z <ℤ pos 0 → z ≤ℤ pos 0
    weak_neg z h = omega (arith, ints)

    less : (i j : ℤ) → (j -ℤ i) <ℤ pos 0 → j ≤ℤ i
    less i j h = omega (arith, ints)

    more : (i j : ℤ) → pos 0 ≤ℤ (j -ℤ i) → i ≤ℤ j
    more i j h = omega (arith, ints)

-- a hit of the line in the box, not beyond the extent's end, makes the extent meet the box
pub within_extent : (i j : Point) (s t y : Fraction) (box : PlanBox) → IsPositive s → IsPositive t → IsPositive y
    → pos 0 ≤ℤ s.num → pos 0 ≤ℤ y.num → (y.num *ℤ t.den) ≤ℤ (t.num *ℤ y.den)
    → SpotIn (spot_at j (vector i j) y) box → Cut i j box
    → spots_meet_box i j (spot_at i (vector j i) s) (spot_at j (vector i j) t) box ≡ true
unfolding spots_meet_box
within_extent i j s t y box qs qt qy sn yn le p c =
    all_four _ _ _ _
    (overlap_one i.x j.x y.num y.den s.num s.den t.num t.den box.low.x box.high.x qy.den qs.den qt.den sn yn le
    p.left p.right)
    (overlap_one i.y j.y y.num y.den s.num s.den t.num t.den box.low.y box.high.y qy.den qs.den qt.den sn yn le
    p.below p.above)
    c.ahead c.back
  where
    all_four : (a b s t : Bool) → a ≡ true → b ≡ true → s ≡ false → t ≡ false → (a && b) && (not s && not t) ≡ true
    all_four a b s t h k l m = grind arith

-- ---- a pair that meets the box has an extent that does

-- a coordinate that isn't below low stays so when it moves up
pub outer_up : (low j w n d : ℤ) → pos 0 <ℤ w → pos 0 ≤ℤ n → pos 0 ≤ℤ d → low ≤ℤ j → (low *ℤ w) ≤ℤ (j *ℤ w +ℤ n *ℤ d)
outer_up low j w n d pw pn pd h =
    last _ _ _ _ _ (product_swapped w low) (product_swapped w j)
    (not_negative_product n d pn pd)
    (order_stays w low j (not_negative _ pw) h)
  where
    last : (wl lw wj jw z : ℤ) → wl ≡ lw → wj ≡ jw → pos 0 ≤ℤ z → wl ≤ℤ wj → lw ≤ℤ (jw +ℤ z)
    last wl lw wj jw z e f g h = omega (arith, ints)

-- one that isn't above high stays so when it moves down
pub outer_down : (high j w n d : ℤ) → pos 0 <ℤ w → pos 0 ≤ℤ n → d ≤ℤ pos 0 → j ≤ℤ high
    → (j *ℤ w +ℤ n *ℤ d) ≤ℤ (high *ℤ w)
outer_down high j w n d pw pn pd h =
    last _ _ _ _ _ (product_swapped w high) (product_swapped w j)
    (falling_product n d pn pd)
    (order_stays w j high (not_negative _ pw) h)
  where
    last : (wl lw wj jw z : ℤ) → wl ≡ lw → wj ≡ jw → z ≤ℤ pos 0 → wj ≤ℤ wl → (jw +ℤ z) ≤ℤ lw
    last wl lw wj jw z e f g h = omega (arith, ints)

-- an interval that begins at i and j or beyond overlaps what the one between them does
pair_one : (i j sn sd tn td low high : ℤ) → pos 0 <ℤ sd → pos 0 <ℤ td → pos 0 ≤ℤ sn → pos 0 ≤ℤ tn
    → do_intervals_overlap i j low high ≡ true
    → spots_overlap (i *ℤ sd +ℤ sn *ℤ (i -ℤ j)) sd (j *ℤ td +ℤ tn *ℤ (j -ℤ i)) td low high ≡ true
pair_one i j sn sd tn td low high ps pt sn_in tn_in h =
    by_lt_z (j -ℤ i) (pos 0)
    (λ m. let k = falling i j low high m h in
    first_and_last _ _ _ _ (to_true _ _ (outer_up low i sd sn (i -ℤ j) ps sn_in (up_of i j m) k.0))
    (to_true _ _ (outer_down high j td tn (j -ℤ i) pt tn_in (weak_neg _ m) k.1)))
    (λ m. let k = rising i j low high m h in
    last_and_first _ _ _ _ (to_true _ _ (outer_up low j td tn (j -ℤ i) pt tn_in m k.0))
    (to_true _ _ (outer_down high i sd sn (i -ℤ j) ps sn_in (down_of i j m) k.1)))
  where
    falling : (i j low high : ℤ) → (j -ℤ i) <ℤ pos 0 → do_intervals_overlap i j low high ≡ true → (low ≤ℤ i) × (j ≤ℤ high)
    falling i j low high m h = (grind (arith, ints), grind (arith, ints))

    rising : (i j low high : ℤ) → pos 0 ≤ℤ (j -ℤ i) → do_intervals_overlap i j low high ≡ true → (low ≤ℤ j) × (i ≤ℤ high)
    rising i j low high m h = (grind (arith, ints), grind (arith, ints))

    weak_neg : (z : ℤ) → z <ℤ pos 0 → z ≤ℤ pos 0
    weak_neg z h = omega (arith, ints)

    up_of : (i j : ℤ) → (j -ℤ i) <ℤ pos 0 → pos 0 ≤ℤ (i -ℤ j)
    up_of i j h = omega (arith, ints)

    down_of : (i j : ℤ) → pos 0 ≤ℤ (j -ℤ i) → (i -ℤ j) ≤ℤ pos 0
    down_of i j h = omega (arith, ints)

-- an extent meets each box that the segment between its points meets
pub extent_of_meeting : (i j : Point) (s t : Fraction) (box : PlanBox) → IsPositive s → IsPositive t → pos 0 ≤ℤ s.num
    → pos 0 ≤ℤ t.num → does_meet_box i j box ≡ true
    → spots_meet_box i j (spot_at i (vector j i) s) (spot_at j (vector i j) t) box ≡ true
unfolding spots_meet_box does_meet_box
extent_of_meeting i j s t box qs qt sn tn h =
    parts _ _ _ h (λ x y c. joined _ _ _
    (pair_one i.x j.x s.num s.den t.num t.den box.low.x box.high.x qs.den qt.den sn tn x)
    (pair_one i.y j.y s.num s.den t.num t.den box.low.y box.high.y qs.den qt.den sn tn y) c)
  where
    parts : {P : Type 0} (a b c : Bool) → (a && b) && c ≡ true → (a ≡ true → b ≡ true → c ≡ true → P) → P
    parts a b c h f = f (grind arith) (grind arith) (grind arith)

    joined : (a b c : Bool) → a ≡ true → b ≡ true → c ≡ true → (a && b) && c ≡ true
    joined a b c h k l = grind arith

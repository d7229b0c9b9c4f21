-- An edge that doesn't touch the segment from p to q: what it adds to the windings round p and q differs as its ends
-- do in the strip.
use Rattle.std.specs.Prelude.{false, Bool, if◌then◌else◌, int_lt, int_le, not, ◌&&◌, true}
use Rattle.std.proofs.Common.{ap, arith, pos, ℤ, ◌≡◌, ◌+ℤ◌, ◌-ℤ◌, ◌*ℤ◌, ◌∙◌, neg_ℤ, ◌<ℤ◌, ◌≤ℤ◌, refl, sym}
use Rattle.std.proofs.lemmas.Int.{ints, by_lt_z}
use Rattle.int_laws.proofs.Ring.{sum_times, times_minus, neg_times}
use Rattle.int_laws.proofs.Signs.{not_positive_factor, not_negative_factor, negative_by, up_factor}
use Rattle.int_laws.proofs.Signs.{not_negative_product, positive_product, opposite_product, negative_product}
use Rattle.int_laws.proofs.Tests.{at_most_tested, less_tested, not_less, not_at_most, agree, tested_less}
use Rattle.plane_spec.specs.declared.Point.{Point}
use Rattle.plane_spec.specs.declared.Segment.{Segment}
use Rattle.plane_spec.specs.Vectors.{cross_of, orient_of, vector}
use Rattle.plane_spec.specs.Segments.{do_touch}
use Rattle.exact_geom.proofs.Orientation.{orient_of_first_exchanged}
use Rattle.plane_laws.proofs.Points.Heights.{height_from}
use Rattle.plane_laws.proofs.Segments.Touching.{line_y, never_down, changes, never_up, touch_turned, touch_swapped}
use Rattle.winding_laws.specs.Windings.{wind}
use Rattle.sight_spec.specs.Scene.{turned_edge}

-- v lies right of the segment from p to q, above one of its ends and not above the other: 1 where the segment goes up,
-- -1 where it goes down
unfoldable pub strip : Point → Point → Point → ℤ
strip p q v =
    if int_le v.y p.y
    then (if int_le v.y q.y then pos 0 else (if int_lt (pos 0) (orient_of p q v) then neg_ℤ (pos 1) else pos 0))
    else (if int_le v.y q.y then (if int_lt (orient_of p q v) (pos 0) then pos 1 else pos 0) else pos 0)

-- ---- three products that add up to nothing

pub start_identity : (a b p q : Point) →
    (orient_of p q a *ℤ (b.y -ℤ p.y) +ℤ orient_of p q b *ℤ (p.y -ℤ a.y)) +ℤ orient_of a b p *ℤ (q.y -ℤ p.y) ≡ pos 0
start_identity a b p q =
    by_parts (orient_of p q a) (orient_of p q b) (orient_of a b p) (cross_of (vector p q) (vector a b)) a.y b.y p.y
    (q.y -ℤ p.y) (height_from p q a b) (line_y a b p q)
  where
    by_parts : (ta tb sp k ay by py w : ℤ) → tb ≡ ta +ℤ k → k *ℤ (ay -ℤ py) ≡ ta *ℤ (by -ℤ ay) +ℤ sp *ℤ w
        → (ta *ℤ (by -ℤ py) +ℤ tb *ℤ (py -ℤ ay)) +ℤ sp *ℤ w ≡ pos 0
    by_parts ta tb sp k ay by py w e f =
        let first = times_minus ta by py in
        let second : tb *ℤ (py -ℤ ay) ≡ ta *ℤ (py -ℤ ay) +ℤ k *ℤ (py -ℤ ay) = ap (λ t. t *ℤ (py -ℤ ay)) e
        ∙ sum_times ta k (py -ℤ ay) in
        let third = times_minus ta py ay in
        let fourth = times_minus k py ay in
        let fifth = times_minus k ay py in
        let sixth = times_minus ta by ay in
        omega (arith, ints, f, first, second, third, fourth, fifth, sixth)

pub end_identity : (a b p q : Point) →
    (orient_of p q a *ℤ (b.y -ℤ q.y) +ℤ orient_of p q b *ℤ (q.y -ℤ a.y)) +ℤ orient_of a b q *ℤ (q.y -ℤ p.y) ≡ pos 0
end_identity a b p q =
    by_parts (orient_of p q a) (orient_of p q b) (orient_of a b q) (orient_of q p a) (orient_of q p b) (b.y -ℤ q.y)
    (q.y -ℤ a.y) p.y q.y
    (orient_of_first_exchanged p q a) (orient_of_first_exchanged p q b) (start_identity a b q p)
  where
    by_parts : (ta tb sq ua ub f g py qy : ℤ) → ua ≡ neg_ℤ ta → ub ≡ neg_ℤ tb
        → (ua *ℤ f +ℤ ub *ℤ g) +ℤ sq *ℤ (py -ℤ qy) ≡ pos 0 → (ta *ℤ f +ℤ tb *ℤ g) +ℤ sq *ℤ (qy -ℤ py) ≡ pos 0
    by_parts ta tb sq ua ub f g py qy e i h =
        let first : ua *ℤ f ≡ neg_ℤ (ta *ℤ f) = ap (λ t. t *ℤ f) e ∙ neg_times ta f in
        let second : ub *ℤ g ≡ neg_ℤ (tb *ℤ g) = ap (λ t. t *ℤ g) i ∙ neg_times tb g in
        let third = times_minus sq py qy in
        let fourth = times_minus sq qy py in
        omega (arith, ints, h, first, second, third, fourth)

first_low : (x f s t : ℤ) → (x *ℤ f +ℤ s) +ℤ t ≡ pos 0 → pos 0 <ℤ f → pos 0 ≤ℤ s → pos 0 ≤ℤ t → x ≤ℤ pos 0
first_low x f s t e up h k = not_positive_factor x f (omega (arith, ints, e, h, k)) up

first_high : (x f s t : ℤ) → (x *ℤ f +ℤ s) +ℤ t ≡ pos 0 → pos 0 <ℤ f → s ≤ℤ pos 0 → t ≤ℤ pos 0 → pos 0 ≤ℤ x
first_high x f s t e up h k = not_negative_factor x f (omega (arith, ints, e, h, k)) up

second_low : (x f s t : ℤ) → (s +ℤ x *ℤ f) +ℤ t ≡ pos 0 → pos 0 <ℤ f → pos 0 ≤ℤ s → pos 0 ≤ℤ t → x ≤ℤ pos 0
second_low x f s t e up h k = not_positive_factor x f (omega (arith, ints, e, h, k)) up

second_high : (x f s t : ℤ) → (s +ℤ x *ℤ f) +ℤ t ≡ pos 0 → pos 0 <ℤ f → s ≤ℤ pos 0 → t ≤ℤ pos 0 → pos 0 ≤ℤ x
second_high x f s t e up h k = not_negative_factor x f (omega (arith, ints, e, h, k)) up

third_low : (x f s t : ℤ) → (s +ℤ t) +ℤ x *ℤ f ≡ pos 0 → pos 0 <ℤ f → pos 0 ≤ℤ s → pos 0 ≤ℤ t → x ≤ℤ pos 0
third_low x f s t e up h k = not_positive_factor x f (omega (arith, ints, e, h, k)) up

third_high : (x f s t : ℤ) → (s +ℤ t) +ℤ x *ℤ f ≡ pos 0 → pos 0 <ℤ f → s ≤ℤ pos 0 → t ≤ℤ pos 0 → pos 0 ≤ℤ x
third_high x f s t e up h k = not_negative_factor x f (omega (arith, ints, e, h, k)) up

first_falls : (x f s t : ℤ) → (x *ℤ f +ℤ s) +ℤ t ≡ pos 0 → pos 0 ≤ℤ f → pos 0 <ℤ (s +ℤ t) → x <ℤ pos 0
first_falls x f s t e up h = negative_by x f (omega (arith, ints, e, h)) up

first_rises : (x f s t : ℤ) → (x *ℤ f +ℤ s) +ℤ t ≡ pos 0 → pos 0 ≤ℤ f → (s +ℤ t) <ℤ pos 0 → pos 0 <ℤ x
first_rises x f s t e up h = up_factor x f (omega (arith, ints, e, h)) up

second_falls : (x f s t : ℤ) → (s +ℤ x *ℤ f) +ℤ t ≡ pos 0 → pos 0 ≤ℤ f → pos 0 <ℤ (s +ℤ t) → x <ℤ pos 0
second_falls x f s t e up h = negative_by x f (omega (arith, ints, e, h)) up

second_rises : (x f s t : ℤ) → (s +ℤ x *ℤ f) +ℤ t ≡ pos 0 → pos 0 ≤ℤ f → (s +ℤ t) <ℤ pos 0 → pos 0 <ℤ x
second_rises x f s t e up h = up_factor x f (omega (arith, ints, e, h)) up

-- ---- where the ends of the edge lie: four cases, with the edge and the segment upwards

-- below p, and between p and q: p is left of the edge exactly where the upper end is right of the segment
low_mid_left : (a b p q : Point) → do_touch a b p q ≡ false → a.y ≤ℤ p.y → p.y <ℤ b.y → b.y ≤ℤ q.y
    → pos 0 <ℤ orient_of a b p → pos 0 ≤ℤ orient_of p q b → ⊥
low_mid_left a b p q free i j k sp tb =
    let p1 = not_negative_product (orient_of p q b) (p.y -ℤ a.y) tb (omega (arith, ints, i)) in
    let p2 = positive_product (orient_of a b p) (q.y -ℤ p.y) sp (omega (arith, ints, j, k)) in
    let p3 = not_negative_product (orient_of a b p) (q.y -ℤ b.y) (omega (arith, ints, sp)) (omega (arith, ints, k)) in
    let p4 = not_negative_product (orient_of p q b) (b.y -ℤ a.y) tb (omega (arith, ints, i, j)) in
    let ta = first_low (orient_of p q a) (b.y -ℤ p.y) _ _ (start_identity a b p q) (omega (arith, ints, j)) p1
    (omega (arith, ints, p2)) in
    let sq = second_low (orient_of a b q) (b.y -ℤ p.y) _ _ (end_identity p q a b) (omega (arith, ints, j)) p3 p4 in
    never_down a b p q free (omega (arith, ints, sp)) sq ta tb (omega (arith, ints, sp, sq))

low_mid_right : (a b p q : Point) → do_touch a b p q ≡ false → a.y ≤ℤ p.y → p.y <ℤ b.y → b.y ≤ℤ q.y
    → orient_of a b p ≤ℤ pos 0 → orient_of p q b <ℤ pos 0 → ⊥
low_mid_right a b p q free i j k sp tb =
    let p1 = opposite_product (orient_of p q b) (p.y -ℤ a.y) (omega (arith, ints, tb)) (omega (arith, ints, i)) in
    let p2 = opposite_product (orient_of a b p) (q.y -ℤ p.y) sp (omega (arith, ints, j, k)) in
    let p3 = opposite_product (orient_of a b p) (q.y -ℤ b.y) sp (omega (arith, ints, k)) in
    let p4 = opposite_product (orient_of p q b) (b.y -ℤ a.y) (omega (arith, ints, tb)) (omega (arith, ints, i, j)) in
    let ta = first_high (orient_of p q a) (b.y -ℤ p.y) _ _ (start_identity a b p q) (omega (arith, ints, j)) p1 p2 in
    let sq = second_high (orient_of a b q) (b.y -ℤ p.y) _ _ (end_identity p q a b) (omega (arith, ints, j)) p3 p4 in
    let c = changes a b p q in
    never_up a b p q free sp sq ta (omega (arith, ints, tb)) (omega (arith, ints, ta, tb, c))

-- between p and q, and above q: q is left of the edge exactly where the lower end is right of the segment
mid_high_left : (a b p q : Point) → do_touch a b p q ≡ false → p.y <ℤ a.y → a.y ≤ℤ q.y → q.y <ℤ b.y
    → pos 0 <ℤ orient_of a b q → pos 0 ≤ℤ orient_of p q a → ⊥
mid_high_left a b p q free i j k sq ta =
    let p1 = not_negative_product (orient_of p q a) (b.y -ℤ q.y) ta (omega (arith, ints, k)) in
    let p2 = positive_product (orient_of a b q) (q.y -ℤ p.y) sq (omega (arith, ints, i, j)) in
    let p3 = positive_product (orient_of a b q) (a.y -ℤ p.y) sq (omega (arith, ints, i)) in
    let p4 = not_negative_product (orient_of p q a) (b.y -ℤ a.y) ta (omega (arith, ints, j, k)) in
    let tb = second_falls (orient_of p q b) (q.y -ℤ a.y) _ _ (end_identity a b p q) (omega (arith, ints, j))
    (omega (arith, ints, p1, p2)) in
    let sp = first_falls (orient_of a b p) (q.y -ℤ a.y) _ _ (start_identity p q a b) (omega (arith, ints, j))
    (omega (arith, ints, p3, p4)) in
    never_up a b p q free (omega (arith, ints, sp)) (omega (arith, ints, sq)) ta (omega (arith, ints, tb))
    (omega (arith, ints, sp, sq))

mid_high_right : (a b p q : Point) → do_touch a b p q ≡ false → p.y <ℤ a.y → a.y ≤ℤ q.y → q.y <ℤ b.y
    → orient_of a b q ≤ℤ pos 0 → orient_of p q a <ℤ pos 0 → ⊥
mid_high_right a b p q free i j k sq ta =
    let p1 = negative_product (orient_of p q a) (b.y -ℤ q.y) ta (omega (arith, ints, k)) in
    let p2 = opposite_product (orient_of a b q) (q.y -ℤ p.y) sq (omega (arith, ints, i, j)) in
    let p3 = opposite_product (orient_of a b q) (a.y -ℤ p.y) sq (omega (arith, ints, i)) in
    let p4 = negative_product (orient_of p q a) (b.y -ℤ a.y) ta (omega (arith, ints, j, k)) in
    let tb = second_rises (orient_of p q b) (q.y -ℤ a.y) _ _ (end_identity a b p q) (omega (arith, ints, j))
    (omega (arith, ints, p1, p2)) in
    let sp = first_rises (orient_of a b p) (q.y -ℤ a.y) _ _ (start_identity p q a b) (omega (arith, ints, j))
    (omega (arith, ints, p3, p4)) in
    never_down a b p q free (omega (arith, ints, sp)) sq (omega (arith, ints, ta)) (omega (arith, ints, tb))
    (omega (arith, ints, sp, sq))

-- below p, and above q: p and q are on one side of the edge
low_high_left : (a b p q : Point) → do_touch a b p q ≡ false → a.y ≤ℤ p.y → p.y ≤ℤ q.y → q.y <ℤ b.y
    → pos 0 <ℤ orient_of a b p → orient_of a b q ≤ℤ pos 0 → ⊥
low_high_left a b p q free i j k sp sq =
    let p1 = opposite_product (orient_of a b q) (b.y -ℤ p.y) sq (omega (arith, ints, j, k)) in
    let p2 = positive_product (orient_of a b p) (b.y -ℤ q.y) sp (omega (arith, ints, k)) in
    let p3 = not_negative_product (orient_of a b p) (q.y -ℤ a.y) (omega (arith, ints, sp))
    (omega (arith, ints, i, j)) in
    let p4 = opposite_product (orient_of a b q) (p.y -ℤ a.y) sq (omega (arith, ints, i)) in
    let e = end_identity p q a b in
    let f = start_identity p q a b in
    let flip = times_minus (orient_of a b p) q.y b.y in
    let flip_too = times_minus (orient_of a b p) b.y q.y in
    let turn = times_minus (orient_of a b q) a.y p.y in
    let turn_too = times_minus (orient_of a b q) p.y a.y in
    let tb = up_factor (orient_of p q b) (b.y -ℤ a.y) (omega (arith, ints, e, p1, p2, flip, flip_too))
    (omega (arith, ints, i, j, k)) in
    let ta = not_positive_factor (orient_of p q a) (b.y -ℤ a.y) (omega (arith, ints, f, p3, p4, turn, turn_too))
    (omega (arith, ints, i, j, k)) in
    never_down a b p q free (omega (arith, ints, sp)) sq ta (omega (arith, ints, tb)) (omega (arith, ints, sp, sq))

low_high_right : (a b p q : Point) → do_touch a b p q ≡ false → a.y ≤ℤ p.y → p.y ≤ℤ q.y → q.y <ℤ b.y
    → orient_of a b p ≤ℤ pos 0 → pos 0 <ℤ orient_of a b q → ⊥
low_high_right a b p q free i j k sp sq =
    let p1 = positive_product (orient_of a b q) (b.y -ℤ p.y) sq (omega (arith, ints, j, k)) in
    let p2 = opposite_product (orient_of a b p) (b.y -ℤ q.y) sp (omega (arith, ints, k)) in
    let p3 = opposite_product (orient_of a b p) (q.y -ℤ a.y) sp (omega (arith, ints, i, j)) in
    let p4 = not_negative_product (orient_of a b q) (p.y -ℤ a.y) (omega (arith, ints, sq)) (omega (arith, ints, i)) in
    let e = end_identity p q a b in
    let f = start_identity p q a b in
    let flip = times_minus (orient_of a b p) q.y b.y in
    let flip_too = times_minus (orient_of a b p) b.y q.y in
    let turn = times_minus (orient_of a b q) a.y p.y in
    let turn_too = times_minus (orient_of a b q) p.y a.y in
    let tb = negative_by (orient_of p q b) (b.y -ℤ a.y) (omega (arith, ints, e, p1, p2, flip, flip_too))
    (omega (arith, ints, i, j, k)) in
    let ta = not_negative_factor (orient_of p q a) (b.y -ℤ a.y) (omega (arith, ints, f, p3, p4, turn, turn_too))
    (omega (arith, ints, i, j, k)) in
    never_up a b p q free sp (omega (arith, ints, sq)) ta (omega (arith, ints, tb)) (omega (arith, ints, sp, sq))

-- both between p and q: they are on one side of the segment
mid_mid_right : (a b p q : Point) → do_touch a b p q ≡ false → p.y <ℤ a.y → a.y ≤ℤ b.y → b.y ≤ℤ q.y
    → orient_of p q a <ℤ pos 0 → pos 0 ≤ℤ orient_of p q b → ⊥
mid_mid_right a b p q free i j k ta tb =
    let p1 = negative_product (orient_of p q a) (b.y -ℤ p.y) ta (omega (arith, ints, i, j)) in
    let p2 = not_negative_product (orient_of p q b) (a.y -ℤ p.y) tb (omega (arith, ints, i)) in
    let p3 = opposite_product (orient_of p q a) (q.y -ℤ b.y) (omega (arith, ints, ta)) (omega (arith, ints, k)) in
    let p4 = not_negative_product (orient_of p q b) (q.y -ℤ a.y) tb (omega (arith, ints, j, k)) in
    let e = start_identity a b p q in
    let f = end_identity a b p q in
    let flip = times_minus (orient_of p q b) p.y a.y in
    let flip_too = times_minus (orient_of p q b) a.y p.y in
    let turn = times_minus (orient_of p q a) b.y q.y in
    let turn_too = times_minus (orient_of p q a) q.y b.y in
    let sp = up_factor (orient_of a b p) (q.y -ℤ p.y) (omega (arith, ints, e, p1, p2, flip, flip_too))
    (omega (arith, ints, i, j, k)) in
    let sq = not_positive_factor (orient_of a b q) (q.y -ℤ p.y) (omega (arith, ints, f, p3, p4, turn, turn_too))
    (omega (arith, ints, i, j, k)) in
    never_down a b p q free (omega (arith, ints, sp)) sq (omega (arith, ints, ta)) tb (omega (arith, ints, sp, sq))

mid_mid_left : (a b p q : Point) → do_touch a b p q ≡ false → p.y <ℤ a.y → a.y ≤ℤ b.y → b.y ≤ℤ q.y
    → pos 0 ≤ℤ orient_of p q a → orient_of p q b <ℤ pos 0 → ⊥
mid_mid_left a b p q free i j k ta tb =
    let p1 = not_negative_product (orient_of p q a) (b.y -ℤ p.y) ta (omega (arith, ints, i, j)) in
    let p2 = negative_product (orient_of p q b) (a.y -ℤ p.y) tb (omega (arith, ints, i)) in
    let p3 = not_negative_product (orient_of p q a) (q.y -ℤ b.y) ta (omega (arith, ints, k)) in
    let p4 = opposite_product (orient_of p q b) (q.y -ℤ a.y) (omega (arith, ints, tb)) (omega (arith, ints, j, k)) in
    let e = start_identity a b p q in
    let f = end_identity a b p q in
    let flip = times_minus (orient_of p q b) p.y a.y in
    let flip_too = times_minus (orient_of p q b) a.y p.y in
    let turn = times_minus (orient_of p q a) b.y q.y in
    let turn_too = times_minus (orient_of p q a) q.y b.y in
    let sp = negative_by (orient_of a b p) (q.y -ℤ p.y) (omega (arith, ints, e, p1, p2, flip, flip_too))
    (omega (arith, ints, i, j, k)) in
    let sq = not_negative_factor (orient_of a b q) (q.y -ℤ p.y) (omega (arith, ints, f, p3, p4, turn, turn_too))
    (omega (arith, ints, i, j, k)) in
    never_up a b p q free (omega (arith, ints, sp)) sq ta (omega (arith, ints, tb)) (omega (arith, ints, sp, sq))

-- ---- counted

one_if : Bool → ℤ
one_if t = if t then pos 1 else pos 0

pub wind_across : (x : Point) (e : Segment) → e.a.y ≤ℤ x.y → x.y <ℤ e.b.y
    → wind x e ≡ (if int_lt (pos 0) (orient_of e.a e.b x) then pos 1 else pos 0)
unfolding wind
wind_across x e h k = rw (at_most_tested e.a.y x.y h, less_tested x.y e.b.y k) refl

pub wind_above : (x : Point) (e : Segment) → e.a.y ≤ℤ x.y → e.b.y ≤ℤ x.y → wind x e ≡ pos 0
unfolding wind
wind_above x e h k = rw (at_most_tested e.a.y x.y h, not_less x.y e.b.y k) refl

pub wind_below : (x : Point) (e : Segment) → x.y <ℤ e.a.y → x.y <ℤ e.b.y → wind x e ≡ pos 0
unfolding wind
wind_below x e h k = rw (not_at_most x.y e.a.y h, not_at_most x.y e.b.y k) refl

pub strip_below : (p q v : Point) → v.y ≤ℤ p.y → v.y ≤ℤ q.y → strip p q v ≡ pos 0
unfolding strip
strip_below p q v h k = rw (at_most_tested v.y p.y h, at_most_tested v.y q.y k) refl

pub strip_above : (p q v : Point) → p.y <ℤ v.y → q.y <ℤ v.y → strip p q v ≡ pos 0
unfolding strip
strip_above p q v h k = rw (not_at_most p.y v.y h, not_at_most q.y v.y k) refl

pub strip_mid : (p q v : Point) → p.y <ℤ v.y → v.y ≤ℤ q.y
    → strip p q v ≡ (if int_lt (orient_of p q v) (pos 0) then pos 1 else pos 0)
unfolding strip
strip_mid p q v h k = rw (not_at_most p.y v.y h, at_most_tested v.y q.y k) refl

unlike_signs : (s t : ℤ) → (pos 0 <ℤ s → pos 0 ≤ℤ t → ⊥) → (s ≤ℤ pos 0 → t <ℤ pos 0 → ⊥)
    → int_lt (pos 0) s ≡ int_lt t (pos 0)
unlike_signs s t up down =
    agree (int_lt (pos 0) s) (int_lt t (pos 0))
    (λ h. by_lt_z t (pos 0) (λ p. less_tested t (pos 0) p) (λ q. absurd (up (tested_less (pos 0) s h) q)))
    (λ h. by_lt_z (pos 0) s (λ p. less_tested (pos 0) s p) (λ q. absurd (down q (tested_less t (pos 0) h))))

like_signs : (s t : ℤ) → (pos 0 <ℤ s → t ≤ℤ pos 0 → ⊥) → (s ≤ℤ pos 0 → pos 0 <ℤ t → ⊥)
    → int_lt (pos 0) s ≡ int_lt (pos 0) t
like_signs s t up down =
    agree (int_lt (pos 0) s) (int_lt (pos 0) t)
    (λ h. by_lt_z (pos 0) t (λ p. less_tested (pos 0) t p) (λ q. absurd (up (tested_less (pos 0) s h) q)))
    (λ h. by_lt_z (pos 0) s (λ p. less_tested (pos 0) s p) (λ q. absurd (down q (tested_less (pos 0) t h))))

like_signs_low : (s t : ℤ) → (s <ℤ pos 0 → pos 0 ≤ℤ t → ⊥) → (pos 0 ≤ℤ s → t <ℤ pos 0 → ⊥)
    → int_lt s (pos 0) ≡ int_lt t (pos 0)
like_signs_low s t up down =
    agree (int_lt s (pos 0)) (int_lt t (pos 0))
    (λ h. by_lt_z t (pos 0) (λ p. less_tested t (pos 0) p) (λ q. absurd (up (tested_less s (pos 0) h) q)))
    (λ h. by_lt_z s (pos 0) (λ p. less_tested s (pos 0) p) (λ q. absurd (down q (tested_less t (pos 0) h))))

-- what an edge adds to the windings round p and q differs as its ends do in the strip
abbrev pub Balanced : Point → Point → Segment → Type 0
Balanced p q e = wind p e -ℤ wind q e ≡ strip p q e.b -ℤ strip p q e.a

differences : (a b c d a' b' c' d' : ℤ) → a ≡ a' → b ≡ b' → c ≡ c' → d ≡ d' → a' -ℤ b' ≡ c' -ℤ d' → a -ℤ b ≡ c -ℤ d
differences a b c d a' b' c' d' e f g h i = omega (arith, ints, e, f, g, h, i)

upwards : (p q : Point) (e : Segment) → do_touch e.a e.b p q ≡ false → p.y ≤ℤ q.y → e.a.y ≤ℤ e.b.y → Balanced p q e
upwards p q e free segment edge =
    let a = e.a in
    let b = e.b in
    by_lt_z q.y a.y
    (λ a_high.
    differences _ _ _ _ _ _ _ _ (wind_below p e (omega (arith, ints, a_high, segment))
    (omega (arith, ints, a_high, segment, edge))) (wind_below q e a_high (omega (arith, ints, a_high, edge)))
    (strip_above p q b (omega (arith, ints, a_high, segment, edge)) (omega (arith, ints, a_high, edge)))
    (strip_above p q a (omega (arith, ints, a_high, segment)) a_high) refl)
    (λ a_low. by_lt_z p.y a.y
    (λ a_mid. by_lt_z q.y b.y
    (λ b_high.
    differences _ _ _ _ _ _ _ _ (wind_below p e a_mid (omega (arith, ints, a_mid, edge))) (wind_across q e a_low b_high)
    (strip_above p q b (omega (arith, ints, a_mid, edge)) b_high) (strip_mid p q a a_mid a_low)
    (ap (λ t. pos 0 -ℤ (if t then pos 1 else pos 0)) (unlike_signs (orient_of a b q) (orient_of p q a)
    (mid_high_left a b p q free a_mid a_low b_high) (mid_high_right a b p q free a_mid a_low b_high))))
    (λ b_low.
    differences _ _ _ _ _ _ _ _ (wind_below p e a_mid (omega (arith, ints, a_mid, edge))) (wind_above q e a_low b_low)
    (strip_mid p q b (omega (arith, ints, a_mid, edge)) b_low) (strip_mid p q a a_mid a_low)
    (nothing_left _ _ (ap (λ t. if t then pos 1 else pos 0)
    (like_signs_low (orient_of p q a) (orient_of p q b) (mid_mid_right a b p q free a_mid edge b_low)
    (mid_mid_left a b p q free a_mid edge b_low))))))
    (λ a_under. by_lt_z q.y b.y
    (λ b_high.
    differences _ _ _ _ _ _ _ _ (wind_across p e a_under (omega (arith, ints, segment, b_high)))
    (wind_across q e a_low b_high)
    (strip_above p q b (omega (arith, ints, segment, b_high)) b_high) (strip_below p q a a_under a_low)
    (sym (nothing_left _ _ (sym (ap (λ t. if t then pos 1 else pos 0)
    (like_signs (orient_of a b p) (orient_of a b q) (low_high_left a b p q free a_under segment b_high)
    (low_high_right a b p q free a_under segment b_high)))))))
    (λ b_low. by_lt_z p.y b.y
    (λ b_mid.
    differences _ _ _ _ _ _ _ _ (wind_across p e a_under b_mid) (wind_above q e a_low b_low)
    (strip_mid p q b b_mid b_low) (strip_below p q a a_under a_low)
    (ap (λ t. (if t then pos 1 else pos 0) -ℤ pos 0) (unlike_signs (orient_of a b p) (orient_of p q b)
    (low_mid_left a b p q free a_under b_mid b_low) (low_mid_right a b p q free a_under b_mid b_low))))
    (λ b_under.
    differences _ _ _ _ _ _ _ _ (wind_above p e a_under b_under) (wind_above q e a_low b_low)
    (strip_below p q b b_under b_low) (strip_below p q a a_under a_low) refl))))
  where
    nothing_left : (s t : ℤ) → s ≡ t → pos 0 -ℤ pos 0 ≡ t -ℤ s
    nothing_left s t e = omega (arith, ints, e)

-- ---- the other ways round

less_negated : (s t : ℤ) → t ≡ neg_ℤ s → int_lt t (pos 0) ≡ int_lt (pos 0) s
less_negated s t e = grind (arith, ints)

more_negated : (s t : ℤ) → t ≡ neg_ℤ s → int_lt (pos 0) t ≡ int_lt s (pos 0)
more_negated s t e = grind (arith, ints)

less_is : (x y : ℤ) → int_lt x y ≡ not (int_le y x)
less_is x y = grind (arith, ints)

-- by whether the ends are low, and whether x is left or right
pub wind_by : Bool → Bool → Bool → Bool → ℤ
wind_by low low_too left right =
    if low then (if not low_too && left then pos 1 else pos 0) else
    (if low_too && right then neg_ℤ (pos 1) else pos 0)

pub wind_is : (x : Point) (e : Segment)
    → wind x e
    ≡ wind_by (int_le e.a.y x.y) (int_le e.b.y x.y) (int_lt (pos 0) (orient_of e.a e.b x))
    (int_lt (orient_of e.a e.b x) (pos 0))
unfolding wind wind_by
wind_is x e = rw (less_is x.y e.b.y) refl

wind_by_turned : (s t l r : Bool) → wind_by t s r l ≡ neg_ℤ (wind_by s t l r)
unfolding wind_by
wind_by_turned true true l r = refl
wind_by_turned true false true r = refl
wind_by_turned true false false r = refl
wind_by_turned false true l true = refl
wind_by_turned false true l false = refl
wind_by_turned false false l r = refl

-- an edge turned round goes the other way
pub wind_turned : (x : Point) (e : Segment) → wind x (turned_edge e) ≡ neg_ℤ (wind x e)
wind_turned x e =
    let o = orient_of_first_exchanged e.a e.b x in
    rw (
      wind_is x (turned_edge e),
      wind_is x e,
      less_negated (orient_of e.a e.b x) (orient_of e.b e.a x) o,
      more_negated
          (orient_of e.a e.b x) (orient_of e.b e.a x) o,
    )
    (wind_by_turned (int_le e.a.y x.y) (int_le e.b.y x.y) (int_lt (pos 0) (orient_of e.a e.b x))
    (int_lt (orient_of e.a e.b x) (pos 0)))

strip_by : Bool → Bool → Bool → Bool → ℤ
strip_by low low_too left right =
    if low then (if low_too then pos 0 else (if left then neg_ℤ (pos 1) else pos 0)) else
    (if low_too then (if right then pos 1 else pos 0) else pos 0)

strip_is : (p q v : Point)
    → strip p q v
    ≡ strip_by (int_le v.y p.y) (int_le v.y q.y) (int_lt (pos 0) (orient_of p q v)) (int_lt (orient_of p q v) (pos 0))
unfolding strip strip_by
strip_is p q v = refl

strip_by_turned : (s t l r : Bool) → strip_by t s r l ≡ neg_ℤ (strip_by s t l r)
unfolding strip_by
strip_by_turned true true l r = refl
strip_by_turned true false true r = refl
strip_by_turned true false false r = refl
strip_by_turned false true l true = refl
strip_by_turned false true l false = refl
strip_by_turned false false l r = refl

pub strip_turned : (p q v : Point) → strip q p v ≡ neg_ℤ (strip p q v)
strip_turned p q v =
    let o = orient_of_first_exchanged p q v in
    rw (
      strip_is q p v,
      strip_is p q v,
      less_negated (orient_of p q v) (orient_of q p v) o,
      more_negated
          (orient_of p q v) (orient_of q p v) o,
    )
    (strip_by_turned (int_le v.y p.y) (int_le v.y q.y) (int_lt (pos 0) (orient_of p q v))
    (int_lt (orient_of p q v) (pos 0)))

balanced_turned : (p q : Point) (e : Segment) → Balanced p q (turned_edge e) → Balanced p q e
balanced_turned p q e h =
    let first = wind_turned p e in
    let second = wind_turned q e in
    omega (arith, ints, h, first, second)

balanced_swapped : (p q : Point) (e : Segment) → Balanced q p e → Balanced p q e
balanced_swapped p q e h =
    let first = strip_turned p q e.a in
    let second = strip_turned p q e.b in
    omega (arith, ints, h, first, second)

segment_up : (p q : Point) (e : Segment) → do_touch e.a e.b p q ≡ false → p.y ≤ℤ q.y → Balanced p q e
segment_up p q e free up =
    by_lt_z e.b.y e.a.y
    (λ down. balanced_turned p q e (upwards p q (turned_edge e) (touch_turned e.a e.b p q ∙ free) up
    (omega (arith, ints, down))))
    (λ edge. upwards p q e free up edge)

-- an edge that doesn't touch the segment from p to q is balanced
pub one_edge : (p q : Point) (e : Segment) → do_touch e.a e.b p q ≡ false → Balanced p q e
one_edge p q e free =
    by_lt_z q.y p.y
    (λ down. balanced_swapped p q e (segment_up q p e (touch_swapped e.a e.b p q ∙ free) (omega (arith, ints, down))))
    (λ up. segment_up p q e free up)

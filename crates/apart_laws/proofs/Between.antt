-- Points on a wall, as they are seen from the station.
use Rattle.std.proofs.Common.{◌≡◌, ℕ, ℤ, ◌+ℤ◌, ◌-ℤ◌, ◌*ℤ◌, neg_ℤ, ◌<ℤ◌, ◌≤ℤ◌, arith, ◌∙◌, ap, pos, subst, sym}
use Rattle.std.proofs.lemmas.Int.{ints, by_lt_z}
use Rattle.std.specs.Ordering.{int_eq}
use Rattle.std.specs.Prelude.{◌&&◌, ◌||◌, Bool, true, int_le, false, int_lt, not}
use borrow.Author.Differences.{up, down}
use Rattle.plane_spec.specs.Polygons.{is_on_edge}
use Rattle.plane_spec.specs.Segments.{is_between, is_on_segment}
use Rattle.plane_spec.specs.Vectors.{vector, cross_of, orient_of, same_point}
use Rattle.plane_spec.specs.declared.Point.{Point}
use Rattle.plane_spec.specs.declared.Segment.{Segment}
use Rattle.sight_spec.specs.Sight.{starts_into_wall}
use Rattle.int_laws.proofs.Ring.{minus_diff, product_diff, same_diff, sum_diff, diff, is_diff, product_swapped}
use Rattle.int_laws.proofs.Ring.{times_minus, times_sum, times_neg, neg_times}
use Rattle.int_laws.proofs.Signs.{not_negative_product, positive_product, positive_factor, positive_tested}
use Rattle.int_laws.proofs.Signs.{tested_positive}
use Rattle.int_laws.proofs.Tests.{at_most_tested, tested_equal, agree}
use Rattle.exact_geom.proofs.Turns.{cross_of_exchanged}
use Rattle.front_laws.proofs.Hits.{orient_is_side, orient_is_cross}
use Rattle.front_laws.proofs.InFront.{four_of}
use Rattle.front_laws.proofs.Tests.{all_three, zero_tested, both_of, by_cases, other_of_both, tested_zero, clash_back}
use Rattle.front_laws.proofs.Tests.{not_below, same_tested, turned_up}

-- the weights of a point on the line
weight_diff : (a b c d e f g h i j k l : ℕ) →
    (diff a b *ℤ diff k l -ℤ diff c d *ℤ diff i j) *ℤ diff e f
    ≡ (diff a b *ℤ diff g h -ℤ diff c d *ℤ diff e f) *ℤ diff i
    j +ℤ (diff e f *ℤ diff k l -ℤ diff g h *ℤ diff i j) *ℤ diff a b
weight_diff a b c d e f g h i j k l = simp (product_diff, minus_diff, sum_diff) (same_diff _ _ _ _ (omega arith))

weight_x : (ax ay bx by cx cy : ℤ) → (ax *ℤ cy -ℤ ay *ℤ cx) *ℤ bx
    ≡ (ax *ℤ by -ℤ ay *ℤ bx) *ℤ cx +ℤ (bx *ℤ cy -ℤ by *ℤ cx) *ℤ ax
weight_x ax ay bx by cx cy =
    rw (is_diff ax, is_diff ay, is_diff bx, is_diff by, is_diff cx, is_diff cy)
    (weight_diff (up ax) (down ax) (up ay) (down ay) (up bx) (down bx) (up by) (down by) (up cx) (down cx) (up cy)
    (down cy))

weight_y_diff : (a b c d e f g h i j k l : ℕ) →
    (diff a b *ℤ diff k l -ℤ diff c d *ℤ diff i j) *ℤ diff g h
    ≡ (diff a b *ℤ diff g h -ℤ diff c d *ℤ diff e f) *ℤ diff k
    l +ℤ (diff e f *ℤ diff k l -ℤ diff g h *ℤ diff i j) *ℤ diff c d
weight_y_diff a b c d e f g h i j k l = simp (product_diff, minus_diff, sum_diff) (same_diff _ _ _ _ (omega arith))

weight_y : (ax ay bx by cx cy : ℤ) → (ax *ℤ cy -ℤ ay *ℤ cx) *ℤ by
    ≡ (ax *ℤ by -ℤ ay *ℤ bx) *ℤ cy +ℤ (bx *ℤ cy -ℤ by *ℤ cx) *ℤ ay
weight_y ax ay bx by cx cy =
    rw (is_diff ax, is_diff ay, is_diff bx, is_diff by, is_diff cx, is_diff cy)
    (weight_y_diff (up ax) (down ax) (up ay) (down ay) (up bx) (down bx) (up by) (down by) (up cx) (down cx) (up cy)
    (down cy))

-- n c = g e + h s with n = g + h: how far c is from s and from e
apart_first : (n g h s c e : ℤ) → n *ℤ c ≡ g *ℤ e +ℤ h *ℤ s → n ≡ g +ℤ h → n *ℤ (c -ℤ s) ≡ g *ℤ (e -ℤ s)
apart_first n g h s c e w sum =
    let a = times_minus n c s in
    let b = times_minus g e s in
    let d : n *ℤ s ≡ s *ℤ (g +ℤ h) = ap (λ t. t *ℤ s) sum ∙ product_swapped (g +ℤ h) s in
    let f = times_sum s g h in
    omega (arith, ints, a, b, d, f, w)

ordered : (c s e : ℤ) → (c -ℤ s) ≤ℤ pos 0 → pos 0 ≤ℤ (c -ℤ e) → is_between c s e ≡ true
ordered c s e h k = right_way (int_le s c && int_le c e) (int_le e c) (int_le c s)
    (at_most_tested e c (omega (arith, ints, k))) (at_most_tested c s (omega (arith, ints, h)))
  where
    right_way : (x y z : Bool) → y ≡ true → z ≡ true → (x || (y && z)) ≡ true
    right_way x y z h k = grind arith

rising : (c s e : ℤ) → pos 0 ≤ℤ (c -ℤ s) → (c -ℤ e) ≤ℤ pos 0 → is_between c s e ≡ true
rising c s e h k = first_way (int_le s c) (int_le c e) (int_le e c && int_le c s)
    (at_most_tested s c (omega (arith, ints, h))) (at_most_tested c e (omega (arith, ints, k)))
  where
    first_way : (x y z : Bool) → x ≡ true → y ≡ true → ((x && y) || z) ≡ true
    first_way x y z h k = grind arith

-- where both weights are 0 or more, it lies between
pub between_weights : (n g h s c e : ℤ) → pos 0 <ℤ n → pos 0 ≤ℤ g → pos 0 ≤ℤ h → n *ℤ (c -ℤ s) ≡ g *ℤ (e -ℤ s)
    → n *ℤ (c -ℤ e) ≡ h *ℤ (s -ℤ e) → is_between c s e ≡ true
between_weights n g h s c e n_up g_up h_up a b =
    by_lt_z e s
    (λ down. ordered c s e (neg_side (c -ℤ s) (e -ℤ s) n g n_up g_up a (omega (arith, ints)))
    (pos_side (c -ℤ e) (s -ℤ e) n h n_up h_up b (omega (arith, ints))))
    (λ upward. rising c s e (pos_side (c -ℤ s) (e -ℤ s) n g n_up g_up a (omega (arith, ints)))
    (neg_side (c -ℤ e) (s -ℤ e) n h n_up h_up b (omega (arith, ints))))
  where
    pos_side : (u w n g : ℤ) → pos 0 <ℤ n → pos 0 ≤ℤ g → n *ℤ u ≡ g *ℤ w → pos 0 ≤ℤ w → pos 0 ≤ℤ u
    pos_side u w n g n_up g_up e w_up = by_lt_z u (pos 0)
        (λ low. let p = positive_product n (neg_ℤ u) n_up (omega (arith, ints, low)) in let m = times_neg n u in
        let q = not_negative_product g w g_up w_up in absurd (omega (arith, ints, p, m, q, e)))
        (λ high. high)

    neg_side : (u w n g : ℤ) → pos 0 <ℤ n → pos 0 ≤ℤ g → n *ℤ u ≡ g *ℤ w → w ≤ℤ pos 0 → u ≤ℤ pos 0
    neg_side u w n g n_up g_up e w_low = by_lt_z (pos 0) u
        (λ high. let p = positive_product n u n_up high in
        let q = not_negative_product g (neg_ℤ w) g_up (omega (arith, ints, w_low)) in let m = times_neg g w in
        absurd (omega (arith, ints, p, m, q, e)))
        (λ low. low)

farther : (s c e : ℤ) → is_between c s e ≡ true → s <ℤ c → pos 0 <ℤ (e -ℤ s)
farther s c e h k = grind (arith, ints)

nearer : (s c e : ℤ) → is_between c s e ≡ true → c <ℤ s → pos 0 <ℤ neg_ℤ (e -ℤ s)
nearer s c e h k = grind (arith, ints)

strictly_left : (s c : ℤ) → c ≤ℤ s → int_eq c s ≡ false → c <ℤ s
strictly_left s c h k = grind (arith, ints)

-- a coordinate strictly on one side of s, between s and e, shows that the weight of e is positive
weight_positive : (n g s c e : ℤ) → pos 0 <ℤ n → n *ℤ (c -ℤ s) ≡ g *ℤ (e -ℤ s) → is_between c s e ≡ true → int_eq c s
    ≡ false → pos 0 <ℤ g
weight_positive n g s c e n_up w between other =
    by_lt_z s c
    (λ right. let far : pos 0 <ℤ (e -ℤ s) = farther s c e between right in
    let p = positive_product n (c -ℤ s) n_up (omega (arith, ints, right)) in
    positive_factor g (e -ℤ s) (subst (λ t. pos 0 <ℤ t) w p) far)
    (λ not_right. let left : c <ℤ s = strictly_left s c not_right other in
    let far : pos 0 <ℤ neg_ℤ (e -ℤ s) = nearer s c e between left in
    let p = positive_product n (neg_ℤ (c -ℤ s)) n_up (omega (arith, ints, left)) in
    let m = times_neg n (c -ℤ s) in
    let k = times_neg g (e -ℤ s) in
    positive_factor g (neg_ℤ (e -ℤ s)) (omega (arith, ints, p, m, k, w)) far)

-- ---- points of the plane

-- what a wall from a to b (a first, counterclockwise from p) and a point q on its line weigh
pub record OnLine (a b q p : Point) : Type 0 where
  pub up : pos 0 <ℤ cross_of (vector p a) (vector p b)
  pub sum : cross_of (vector p a) (vector p b)
      ≡ cross_of (vector p a) (vector p q) +ℤ cross_of (vector p q) (vector p b)

shifted : (n g s c e p : ℤ) → n *ℤ ((c -ℤ p) -ℤ (s -ℤ p)) ≡ g *ℤ ((e -ℤ p) -ℤ (s -ℤ p)) → n *ℤ (c -ℤ s) ≡ g *ℤ (e -ℤ s)
shifted n g s c e p h = ap (λ t. n *ℤ t) (far c s p) ∙ h ∙ ap (λ t. g *ℤ t) (sym (far e s p))
  where
    far : (c s p : ℤ) → c -ℤ s ≡ (c -ℤ p) -ℤ (s -ℤ p)
    far c s p = omega (arith, ints)

flip_sum : (n g h : ℤ) → n ≡ g +ℤ h → n ≡ h +ℤ g
flip_sum n g h e = omega (arith, ints, e)

flip_weights : (x g e h s : ℤ) → x ≡ g *ℤ e +ℤ h *ℤ s → x ≡ h *ℤ s +ℤ g *ℤ e
flip_weights x g e h s k = omega (arith, ints, k)

pub record Weights (n g h s c e : ℤ) : Type 0 where
  pub from_first : n *ℤ (c -ℤ s) ≡ g *ℤ (e -ℤ s)
  pub from_second : n *ℤ (c -ℤ e) ≡ h *ℤ (s -ℤ e)

weights_of : (n g h s c e p : ℤ) → n *ℤ (c -ℤ p) ≡ g *ℤ (e -ℤ p) +ℤ h *ℤ (s -ℤ p) → n ≡ g +ℤ h → Weights n g h s c e
weights_of n g h s c e p w sum = record {
  from_first = shifted n g s c e p (apart_first n g h (s -ℤ p) (c -ℤ p) (e -ℤ p) w sum);
  from_second = shifted n h e c s p (apart_first n h g (e -ℤ p) (c -ℤ p) (s -ℤ p)
      (flip_weights _ g (e -ℤ p) h (s -ℤ p) w) (flip_sum n g h sum));
}

weights_x : (a b q p : Point) → OnLine a b q p
    → Weights (cross_of (vector p a) (vector p b)) (cross_of (vector p a) (vector p q))
    (cross_of (vector p q) (vector p b)) a.x q.x b.x
weights_x a b q p on =
    weights_of (cross_of (vector p a) (vector p b)) (cross_of (vector p a) (vector p q))
    (cross_of (vector p q) (vector p b)) a.x q.x b.x p.x
    (weight_x (vector p a).x (vector p a).y (vector p q).x (vector p q).y (vector p b).x (vector p b).y) on.sum

weights_y : (a b q p : Point) → OnLine a b q p
    → Weights (cross_of (vector p a) (vector p b)) (cross_of (vector p a) (vector p q))
    (cross_of (vector p q) (vector p b)) a.y q.y b.y
weights_y a b q p on =
    weights_of (cross_of (vector p a) (vector p b)) (cross_of (vector p a) (vector p q))
    (cross_of (vector p q) (vector p b)) a.y q.y b.y p.y
    (weight_y (vector p a).x (vector p a).y (vector p q).x (vector p q).y (vector p b).x (vector p b).y) on.sum

-- a point of the line whose direction lies between those of the ends is on the wall
pub on_wall : (a b q p : Point) → OnLine a b q p → orient_of a b q ≡ pos 0
    → pos 0 ≤ℤ cross_of (vector p a) (vector p q) → pos 0 ≤ℤ cross_of (vector p q) (vector p b) → is_on_segment q a b
    ≡ true
unfolding is_on_segment
on_wall a b q p on line g_up h_up =
    let n = cross_of (vector p a) (vector p b) in
    let g = cross_of (vector p a) (vector p q) in
    let k = cross_of (vector p q) (vector p b) in
    let x = weights_x a b q p on in
    let y = weights_y a b q p on in
    all_three _ _ _ (zero_tested _ line)
    (between_weights n g k a.x q.x b.x on.up g_up h_up x.from_first x.from_second)
    (between_weights n g k a.y q.y b.y on.up g_up h_up y.from_first y.from_second)

-- and back: a point on the wall, other than its first end, has its direction strictly left of that end's
pub past_first : (a b q p : Point) → OnLine a b q p → is_on_segment q a b ≡ true → same_point q a ≡ false
    → pos 0 <ℤ cross_of (vector p a) (vector p q)
unfolding is_on_segment
past_first a b q p on h other =
    let rest = both_of (int_eq (orient_of a b q) (pos 0)) (is_between q.x a.x b.x && is_between q.y a.y b.y) h in
    let two = both_of (is_between q.x a.x b.x) (is_between q.y a.y b.y) rest.1 in
    let n = cross_of (vector p a) (vector p b) in
    let g = cross_of (vector p a) (vector p q) in
    let k = cross_of (vector p q) (vector p b) in
    let x = weights_x a b q p on in
    let y = weights_y a b q p on in
    by_cases (int_eq q.x a.x)
    (λ e. weight_positive n g a.y q.y b.y on.up y.from_first two.1
    (other_of_both (int_eq q.x a.x) (int_eq q.y a.y) e other))
    (λ e. weight_positive n g a.x q.x b.x on.up x.from_first two.0 e)

-- ---- a target on a wall

-- the target lies on the wall, not at an end, and the station strictly left of it
unfoldable pub faces_where : Point → Point → Segment → Bool
faces_where p q w =
    int_lt (pos 0) (cross_of (vector p w.a) (vector p w.b))
    && ((int_lt (pos 0) (cross_of (vector p w.a) (vector p q)) && int_lt (pos 0) (cross_of (vector p q) (vector p w.b)))
    && int_eq ((cross_of (vector p w.a) (vector p w.b) +ℤ cross_of (vector p w.b) (vector p q)) -ℤ cross_of
    (vector p w.a) (vector p q)) (pos 0))

sum_of_side : (n s t g : ℤ) → s ≡ neg_ℤ t → (n +ℤ s) -ℤ g ≡ pos 0 → n ≡ g +ℤ t
sum_of_side n s t g e h = omega (arith, ints, e, h)

pub turn_ends : (a b q p : Point) → pos 0 <ℤ cross_of (vector p a) (vector p b) → orient_of a b q ≡ pos 0
    → OnLine a b q p
turn_ends a b q p up line = record {
  up = up;
  sum = sum_of_side (cross_of (vector p a) (vector p b)) (cross_of (vector p b) (vector p q))
      (cross_of (vector p q) (vector p b)) (cross_of (vector p a) (vector p q))
      (cross_of_exchanged (vector p q) (vector p b)) (sym (orient_is_side a b q p) ∙ line);
}

-- the same with the ends the other way round, for the second end
past_second : (a b q p : Point) → OnLine a b q p → is_on_segment q a b ≡ true → same_point q b ≡ false
    → pos 0 <ℤ cross_of (vector p q) (vector p b)
unfolding is_on_segment
past_second a b q p on h other =
    let rest = both_of (int_eq (orient_of a b q) (pos 0)) (is_between q.x a.x b.x && is_between q.y a.y b.y) h in
    let two = both_of (is_between q.x a.x b.x) (is_between q.y a.y b.y) rest.1 in
    let n = cross_of (vector p a) (vector p b) in
    let k = cross_of (vector p q) (vector p b) in
    let x = weights_x a b q p on in
    let y = weights_y a b q p on in
    by_cases (int_eq q.x b.x)
    (λ e. weight_positive n k b.y q.y a.y on.up y.from_second (other_way q.y a.y b.y two.1)
    (other_of_both (int_eq q.x b.x) (int_eq q.y b.y) e other))
    (λ e. weight_positive n k b.x q.x a.x on.up x.from_second (other_way q.x a.x b.x two.0) e)
  where
    or_swap : (a b : Bool) → (a || b) ≡ true → (b || a) ≡ true
    or_swap a b h = grind arith

    other_way : (m s e : ℤ) → is_between m s e ≡ true → is_between m e s ≡ true
    other_way m s e = or_swap (int_le s m && int_le m e) (int_le e m && int_le m s)

pub line_of_segment : (q a b : Point) → is_on_segment q a b ≡ true → orient_of a b q ≡ pos 0
unfolding is_on_segment
line_of_segment q a b h = tested_zero _ (both_of (int_eq (orient_of a b q) (pos 0))
    (is_between q.x a.x b.x && is_between q.y a.y b.y) h).0

-- the same point's direction isn't to its left
not_same : (p q a : Point) → pos 0 <ℤ cross_of (vector p a) (vector p q) → same_point q a ≡ false
not_same p q a h = by_cases (same_point q a)
    (λ e. absurd (none (vector p a).x (vector p a).y (vector p q).x (vector p q).y
    (moved q.x a.x p.x (both_of (int_eq q.x a.x) (int_eq q.y a.y) e).0)
    (moved q.y a.y p.y (both_of (int_eq q.x a.x) (int_eq q.y a.y) e).1) h)) (λ e. e)
  where
    moved : (x y z : ℤ) → int_eq x y ≡ true → x -ℤ z ≡ y -ℤ z
    moved x y z e = ap (λ t. t -ℤ z) (tested_equal x y e)

    none : (x y u v : ℤ) → u ≡ x → v ≡ y → pos 0 <ℤ (x *ℤ v -ℤ y *ℤ u) → ⊥
    none x y u v e f h =
        let k : x *ℤ v ≡ x *ℤ y = ap (λ t. x *ℤ t) f in
        let l : y *ℤ u ≡ y *ℤ x = ap (λ t. y *ℤ t) e in
        omega (arith, ints, k, l, h)

four_true : {a b c d : Bool} → a ≡ true → b ≡ true → c ≡ true → d ≡ true → (a && ((b && c) && d)) ≡ true
four_true {a} {b} {c} {d} h k j l = grind arith

chain_true : {a b c d : Bool} → a ≡ true → b ≡ true → c ≡ true → d ≡ true → ((a && (b && c)) && d) ≡ true
chain_true {a} {b} {c} {d} h k j l = grind arith

not_true_of : {a : Bool} → a ≡ false → not a ≡ true
not_true_of {a} h = ap not h

false_of : {a : Bool} → not a ≡ true → a ≡ false
false_of {a} h = grind arith

-- the target is on the wall, and the station to its left, exactly where the wall is seen unturned, spanned, and the
-- target on its line
pub leaves_where : (p q : Point) (w : Segment) → starts_into_wall q p w ≡ faces_where p q w
unfolding starts_into_wall faces_where
leaves_where p q w =
    agree (starts_into_wall q p w) (faces_where p q w)
    (λ h. let all = both_of (is_on_edge q w && (not (same_point q w.a) && not (same_point q w.b)))
    (int_lt (pos 0) (orient_of w.a w.b p)) h in
    let one = both_of (is_on_edge q w) (not (same_point q w.a) && not (same_point q w.b)) all.0 in
    let two = both_of (not (same_point q w.a)) (not (same_point q w.b)) one.1 in
    let up = subst (λ t. pos 0 <ℤ t) (orient_is_cross w.a w.b p) (tested_positive (orient_of w.a w.b p) all.1) in
    let line = line_of_segment q w.a w.b one.0 in
    let on = turn_ends w.a w.b q p up line in
    four_true (positive_tested _ up) (positive_tested _ (past_first w.a w.b q p on one.0 (false_of two.0)))
    (positive_tested _ (past_second w.a w.b q p on one.0 (false_of two.1)))
    (zero_tested _ (sym (orient_is_side w.a w.b q p) ∙ line)))
    (λ h. let a = vector p w.a in
    let b = vector p w.b in
    let d = vector p q in
    let one = both_of (int_lt (pos 0) (cross_of a b))
    ((int_lt (pos 0) (cross_of a d) && int_lt (pos 0) (cross_of d b))
    && int_eq ((cross_of a b +ℤ cross_of b d) -ℤ cross_of a d) (pos 0)) h in
    let two = both_of (int_lt (pos 0) (cross_of a d) && int_lt (pos 0) (cross_of d b))
    (int_eq ((cross_of a b +ℤ cross_of b d) -ℤ cross_of a d) (pos 0)) one.1 in
    let three = both_of (int_lt (pos 0) (cross_of a d)) (int_lt (pos 0) (cross_of d b)) two.0 in
    let up = tested_positive (cross_of a b) one.0 in
    let line : orient_of w.a w.b q ≡ pos 0 = orient_is_side w.a w.b q p ∙ tested_zero _ two.1 in
    let on = turn_ends w.a w.b q p up line in
    let first = tested_positive (cross_of a d) three.0 in
    let last = tested_positive (cross_of d b) three.1 in
    chain_true (on_wall w.a w.b q p on line (not_below _ first) (not_below _ last))
    (not_true_of (not_same p q w.a first)) (not_true_of (not_same_end p q w.b last))
    (positive_tested _ (subst (λ t. pos 0 <ℤ t) (sym (orient_is_cross w.a w.b p)) up)))
  where
    not_same_end : (p q b : Point) → pos 0 <ℤ cross_of (vector p q) (vector p b) → same_point q b ≡ false
    not_same_end p q b h = by_cases (same_point q b)
        (λ e. absurd (clash_back (same_point b q) (not_same p b q h) (swap e))) (λ e. e)
      where
        eq_swap : (x y : ℤ) → int_eq x y ≡ true → int_eq y x ≡ true
        eq_swap x y h = subst (λ t. int_eq t x ≡ true) (tested_equal x y h) (same_tested x)

        both_swap : {a b : Bool} → a ≡ true → b ≡ true → (a && b) ≡ true
        both_swap {a} {b} h k = grind arith

        swap : same_point q b ≡ true → same_point b q ≡ true
        swap e = both_swap (eq_swap q.x b.x (both_of (int_eq q.x b.x) (int_eq q.y b.y) e).0)
            (eq_swap q.y b.y (both_of (int_eq q.x b.x) (int_eq q.y b.y) e).1)

-- ---- two blockers on one line that one direction spans touch

-- n u = g y + h x from the sides, with u the direction's place
more_up : (n u g x h y : ℤ) → n *ℤ u +ℤ h *ℤ y ≡ g *ℤ x → pos 0 <ℤ n → pos 0 <ℤ u → pos 0 ≤ℤ h → pos 0 <ℤ y
    → pos 0 <ℤ x → pos 0 <ℤ g
more_up n u g x h y e n_up u_up h_up y_up x_up =
    let p = positive_product n u n_up u_up in
    let q = not_negative_product h y h_up (omega (arith, ints, y_up)) in
    positive_factor g x (omega (arith, ints, p, q, e)) x_up

swap_products : (ab cd ad bc ac bd cb : ℤ) → ab *ℤ cd +ℤ ad *ℤ bc ≡ ac *ℤ bd → cb ≡ neg_ℤ bc
    → ab *ℤ cd +ℤ ac *ℤ neg_ℤ bd ≡ cb *ℤ ad
swap_products ab cd ad bc ac bd cb e f =
    let m = times_neg ac bd in
    let k : cb *ℤ ad ≡ neg_ℤ (bc *ℤ ad) = ap (λ t. t *ℤ ad) f ∙ neg_times bc ad in
    omega (arith, ints, e, m, k)

-- a, b, c as vectors from the station, c at or past a, and d between a and b and past c: then c is before b
pub before_end : (a b c d : Point) → pos 0 <ℤ cross_of a b → pos 0 <ℤ cross_of a d → pos 0 <ℤ cross_of d b
    → pos 0 <ℤ cross_of c d → pos 0 ≤ℤ cross_of a c → pos 0 <ℤ cross_of c b
before_end a b c d ab ad db cd ac =
    more_up (cross_of a b) (cross_of c d) (cross_of c b) (cross_of a d) (cross_of a c) (cross_of d b)
    (subst (λ t. cross_of a b *ℤ cross_of c d +ℤ cross_of a c *ℤ t ≡ cross_of c b *ℤ cross_of a d)
    (sym (cross_of_exchanged b d))
    (swap_products (cross_of a b) (cross_of c d) (cross_of a d) (cross_of b c) (cross_of a c) (cross_of b d)
    (cross_of c b) (four_of a b c d) (cross_of_exchanged b c)))
    ab cd ac db ad

pub data OneOnOther (a b c e : Point) : Type 0 where
  third : is_on_segment c a b ≡ true → OneOnOther a b c e
  first : is_on_segment a c e ≡ true → OneOnOther a b c e

-- of walls ab and ce on one line, both spanned by one direction, the later first end lies on the other wall
pub overlap : (p d a b c e : Point) → pos 0 <ℤ cross_of (vector p a) (vector p b)
    → pos 0 <ℤ cross_of (vector p c) (vector p e)
    → pos 0 <ℤ cross_of (vector p a) d → pos 0 <ℤ cross_of d (vector p b) → pos 0 <ℤ cross_of (vector p c) d
    → pos 0 <ℤ cross_of d (vector p e)
    → orient_of a b c ≡ pos 0 → orient_of c e a ≡ pos 0 → OneOnOther a b c e
overlap p d a b c e ab_up ce_up ad db cd de line other_line =
    by_lt_z (cross_of (vector p a) (vector p c)) (pos 0)
    (λ low. let ca : pos 0 ≤ℤ cross_of (vector p c) (vector p a) = turned_up _ _
    (cross_of_exchanged (vector p a) (vector p c)) low in
    first (on_wall c e a p (turn_ends c e a p ce_up other_line) other_line ca
    (not_below _ (before_end (vector p c) (vector p e) (vector p a) d ce_up cd de ad ca))))
    (λ high. third (on_wall a b c p (turn_ends a b c p ab_up line) line high
    (not_below _ (before_end (vector p a) (vector p b) (vector p c) d ab_up ad db cd high))))

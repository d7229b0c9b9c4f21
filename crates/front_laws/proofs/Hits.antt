-- Hits and crossings as they are seen from the station.
--
-- The definitions turn a wall's ends by the ray's direction: a hit is where both are strictly on different sides of
-- the ray's line and the parameter is positive. From the station the wall is seen counterclockwise, so that its spread
-- is positive; then "different sides and positive" says that d is strictly left of its first end and right of its
-- second, which is that d spans it. A wall seen the other way is turned, and one in line with the station is never
-- hit. A crossing asks, besides, that the end of the segment is on the other side of the wall than the station, that
-- is, that its side is negative.
use Rattle.std.proofs.Common.{◌≡◌, ℕ, ℤ, pos, ◌+ℤ◌, ◌-ℤ◌, ◌*ℤ◌, neg_ℤ, ◌<ℤ◌, ◌≤ℤ◌, ◌∙◌, ap, arith, refl, sym}
use Rattle.std.proofs.lemmas.Int.{ints, by_lt_z}
use Rattle.std.specs.Prelude.{if◌then◌else◌, ◌&&◌, int_lt, Option, Some, None, Bool, true, cond, false}
use borrow.Author.Differences.{up, down}
use Rattle.plane_spec.specs.Fractions.{Fraction, fraction}
use Rattle.plane_spec.specs.Segments.{are_opposite, cross_properly}
use Rattle.plane_spec.specs.Vectors.{vector, cross_of, orient_of}
use Rattle.plane_spec.specs.declared.Point.{Point}
use Rattle.plane_spec.specs.declared.Segment.{Segment}
use Rattle.sight_spec.specs.Sight.{crosses}
use Rattle.sight_spec.specs.Stops.{blocker_hit}
use Rattle.int_laws.proofs.Ring.{minus_diff, product_diff, same_diff, sum_diff, diff, is_diff}
use Rattle.int_laws.proofs.Signs.{not_positive_tested, positive_tested}
use Rattle.exact_geom.proofs.Turns.{cross_of_exchanged}
use Rattle.front_laws.proofs.Tests.{by_cases, negative_tested}
use Rattle.front_laws.specs.Seen.{seen_of, hit_where, crossed_where}

-- n is the cross of the ends, x and y are how the ends lie from the ray
hit_by : (n x y : ℤ) → Option Fraction
hit_by n x y = if are_opposite x y && int_lt (pos 0) (fraction n (y -ℤ x)).num then Some (fraction n (y -ℤ x)) else None

pick : {X : Type 0} (c : Bool) (a b : X) → c ≡ true → cond c a b ≡ a
pick c a b h = ap (λ t. cond t a b) h

skip : {X : Type 0} (c : Bool) (a b : X) → c ≡ false → cond c a b ≡ b
skip c a b h = ap (λ t. cond t a b) h

ratio_up : (n d : ℤ) → pos 0 <ℤ d → fraction n d ≡ record { num = n; den = d }
ratio_up n d h = pick (int_lt (pos 0) d) (record { num = n; den = d }) (record { num = neg_ℤ n; den = neg_ℤ d })
    (grind (arith, ints))

ratio_down : (n d : ℤ) → d ≤ℤ pos 0 → fraction n d ≡ record { num = neg_ℤ n; den = neg_ℤ d }
ratio_down n d h = skip (int_lt (pos 0) d) (record { num = n; den = d }) (record { num = neg_ℤ n; den = neg_ℤ d })
    (grind (arith, ints))

-- the same ratio
abbrev found : ℤ → ℤ → Option Fraction
found n d = Some (record { num = n; den = d })

same_ratio : (n m d e : ℤ) → n ≡ m → d ≡ e → found n d ≡ found m e
same_ratio n m d e h k = ap (λ t. found t d) h ∙ ap (λ t. found m t) k

-- x = d×A, y = d×B, u = A×d, v = B×d, n = A×B, m = B×A
hit_up : (n x y u : ℤ) → pos 0 <ℤ n → u ≡ neg_ℤ x → hit_by n x y
    ≡ (if int_lt (pos 0) u && int_lt (pos 0) y then Some (record { num = n; den = y +ℤ u }) else None)
unfolding hit_by
hit_up n x y u n_up e = by_cases (int_lt (pos 0) u && int_lt (pos 0) y)
    (λ h. let d_up : pos 0 <ℤ (y -ℤ x) = grind (arith, ints) in
    let r = ratio_up n (y -ℤ x) d_up in
    let c : (are_opposite x y && int_lt (pos 0) (fraction n (y -ℤ x)).num) ≡ true = rw r (grind (arith, ints)) in
    pick _ _ _ c ∙ ap Some r ∙ same_ratio n n (y -ℤ x) (y +ℤ u) refl (omega (arith, ints)) ∙ sym (pick _ _ _ h))
    (λ h. let c : (are_opposite x y && int_lt (pos 0) (fraction n (y -ℤ x)).num) ≡ false =
    by_lt_z (pos 0) (y -ℤ x)
    (λ p. rw (ratio_up n (y -ℤ x) p) (grind (arith, ints)))
    (λ q. rw (ratio_down n (y -ℤ x) q) (grind (arith, ints))) in
    skip _ _ _ c ∙ sym (skip _ _ _ h))

hit_down : (n x y v m : ℤ) → n <ℤ pos 0 → v ≡ neg_ℤ y → m ≡ neg_ℤ n → hit_by n x y
    ≡ (if int_lt (pos 0) v && int_lt (pos 0) x then Some (record { num = m; den = x +ℤ v }) else None)
unfolding hit_by
hit_down n x y v m n_down e f = by_cases (int_lt (pos 0) v && int_lt (pos 0) x)
    (λ h. let d_down : (y -ℤ x) ≤ℤ pos 0 = grind (arith, ints) in
    let r = ratio_down n (y -ℤ x) d_down in
    let c : (are_opposite x y && int_lt (pos 0) (fraction n (y -ℤ x)).num) ≡ true = rw r (grind (arith, ints)) in
    pick _ _ _ c ∙ ap Some r ∙ same_ratio (neg_ℤ n) m (neg_ℤ (y -ℤ x)) (x +ℤ v) (sym f) (omega (arith, ints))
    ∙ sym (pick _ _ _ h))
    (λ h. let c : (are_opposite x y && int_lt (pos 0) (fraction n (y -ℤ x)).num) ≡ false =
    by_lt_z (pos 0) (y -ℤ x)
    (λ p. rw (ratio_up n (y -ℤ x) p) (grind (arith, ints)))
    (λ q. rw (ratio_down n (y -ℤ x) q) (grind (arith, ints))) in
    skip _ _ _ c ∙ sym (skip _ _ _ h))

hit_none : (n x y : ℤ) → n ≡ pos 0 → hit_by n x y ≡ None
unfolding hit_by
hit_none n x y e =
    let c : (are_opposite x y && int_lt (pos 0) (fraction n (y -ℤ x)).num) ≡ false =
    by_lt_z (pos 0) (y -ℤ x)
    (λ p. rw (ratio_up n (y -ℤ x) p) (grind (arith, ints)))
    (λ q. rw (ratio_down n (y -ℤ x) q) (grind (arith, ints))) in
    skip _ _ _ c

not_down : (z : ℤ) → pos 0 ≤ℤ z → int_lt z (pos 0) ≡ false
not_down z h = grind (arith, ints)

is_none : (z : ℤ) → z ≤ℤ pos 0 → pos 0 ≤ℤ z → z ≡ pos 0
is_none z h k = omega (arith, ints)

blocker_hit_is : (p d : Point) (w : Segment) → blocker_hit p d w
    ≡ hit_by (cross_of (vector p w.a) (vector p w.b)) (cross_of d (vector p w.a)) (cross_of d (vector p w.b))
unfolding blocker_hit hit_by
blocker_hit_is p d w = refl

-- a wall or screen is hit exactly where it is seen and spanned
pub hit_is_where : (p d : Point) (w : Segment) → blocker_hit p d w ≡ hit_where d (seen_of p w)
unfolding seen_of
hit_is_where p d w =
    let a = vector p w.a in
    let b = vector p w.b in
    blocker_hit_is p d w ∙
    by_lt_z (pos 0) (cross_of a b)
    (λ n_up. hit_up (cross_of a b) (cross_of d a) (cross_of d b) (cross_of a d) n_up (cross_of_exchanged d a)
    ∙ sym (ap (hit_where d) (pick (int_lt (pos 0) (cross_of a b)) _ _ (positive_tested _ n_up))))
    (λ n_low. by_lt_z (cross_of a b) (pos 0)
    (λ n_down. hit_down (cross_of a b) (cross_of d a) (cross_of d b) (cross_of b d) (cross_of b a) n_down
    (cross_of_exchanged d b) (cross_of_exchanged a b)
    ∙ sym (ap (hit_where d) (skip (int_lt (pos 0) (cross_of a b)) _ _ (not_positive_tested _ n_low)
    ∙ pick (int_lt (cross_of a b) (pos 0)) _ _ (negative_tested _ n_down))))
    (λ n_high. hit_none (cross_of a b) (cross_of d a) (cross_of d b) (is_none _ n_low n_high)
    ∙ sym (ap (hit_where d) (skip (int_lt (pos 0) (cross_of a b)) _ _ (not_positive_tested _ n_low)
    ∙ skip (int_lt (cross_of a b) (pos 0)) _ _ (not_down _ n_high)))))

-- ---- crossings

station_diff : (a b c d e f g h i j k l : ℕ) →
    (diff e f -ℤ diff a b) *ℤ (diff k l -ℤ diff c d) -ℤ (diff g h -ℤ diff c d) *ℤ (diff i j -ℤ diff a b)
    ≡ (diff a b -ℤ diff i j) *ℤ (diff g h -ℤ diff k l) -ℤ (diff c d -ℤ diff k l) *ℤ (diff e f -ℤ diff i j)
station_diff a b c d e f g h i j k l = simp (product_diff, minus_diff, sum_diff) (same_diff _ _ _ _ (omega arith))

station_is : (ax ay bx by px py : ℤ) → (bx -ℤ ax) *ℤ (py -ℤ ay) -ℤ (by -ℤ ay) *ℤ (px -ℤ ax)
    ≡ (ax -ℤ px) *ℤ (by -ℤ py) -ℤ (ay -ℤ py) *ℤ (bx -ℤ px)
station_is ax ay bx by px py =
    rw (is_diff ax, is_diff ay, is_diff bx, is_diff by, is_diff px, is_diff py)
    (station_diff (up ax) (down ax) (up ay) (down ay) (up bx) (down bx) (up by) (down by) (up px) (down px) (up py)
    (down py))

-- the station's side of the line
pub orient_is_cross : (a b p : Point) → orient_of a b p ≡ cross_of (vector p a) (vector p b)
orient_is_cross a b p = station_is a.x a.y b.x b.y p.x p.y

side_diff : (a b c d e f g h i j k l : ℕ) →
    (diff e f -ℤ diff a b) *ℤ (diff k l -ℤ diff c d) -ℤ (diff g h -ℤ diff c d) *ℤ (diff i j -ℤ diff a b)
    ≡ ((diff a b *ℤ diff g h -ℤ diff c d *ℤ diff e f) +ℤ (diff e f *ℤ diff k l -ℤ diff g h *ℤ diff i j)) -ℤ (diff a
    b *ℤ diff k l -ℤ diff c d *ℤ diff i j)
side_diff a b c d e f g h i j k l = simp (product_diff, minus_diff, sum_diff) (same_diff _ _ _ _ (omega arith))

side_is : (ax ay bx by qx qy : ℤ) → (bx -ℤ ax) *ℤ (qy -ℤ ay) -ℤ (by -ℤ ay) *ℤ (qx -ℤ ax)
    ≡ ((ax *ℤ by -ℤ ay *ℤ bx) +ℤ (bx *ℤ qy -ℤ by *ℤ qx)) -ℤ (ax *ℤ qy -ℤ ay *ℤ qx)
side_is ax ay bx by qx qy =
    rw (is_diff ax, is_diff ay, is_diff bx, is_diff by, is_diff qx, is_diff qy)
    (side_diff (up ax) (down ax) (up ay) (down ay) (up bx) (down bx) (up by) (down by) (up qx) (down qx) (up qy)
    (down qy))

pub shift : (a b p : ℤ) → b -ℤ a ≡ (b -ℤ p) -ℤ (a -ℤ p)
shift a b p = omega (arith, ints)

-- how a point q lies from the line, by the vectors from the station
pub orient_is_side : (a b q p : Point) → orient_of a b q
    ≡ (cross_of (vector p a) (vector p b) +ℤ cross_of (vector p b) (vector p q)) -ℤ cross_of (vector p a) (vector p q)
orient_is_side a b q p =
    rw (shift a.x b.x p.x, shift a.y b.y p.y, shift a.x q.x p.x, shift a.y q.y p.y)
    (side_is (a.x -ℤ p.x) (a.y -ℤ p.y) (b.x -ℤ p.x) (b.y -ℤ p.y) (q.x -ℤ p.x) (q.y -ℤ p.y))

cross_up : (n m x y u v s : ℤ) → pos 0 <ℤ n → u ≡ neg_ℤ x → v ≡ neg_ℤ y → m ≡ n +ℤ v -ℤ u → s ≡ n +ℤ v -ℤ u
    → (are_opposite n m && are_opposite x y) ≡ ((int_lt (pos 0) u && int_lt (pos 0) y) && int_lt s (pos 0))
cross_up n m x y u v s a b c d e = grind (arith, ints)

cross_down : (n m x y u v s k : ℤ) → n <ℤ pos 0 → u ≡ neg_ℤ x → v ≡ neg_ℤ y → k ≡ neg_ℤ n → m ≡ n +ℤ v -ℤ u → s
    ≡ k +ℤ u -ℤ v
    → (are_opposite n m && are_opposite x y) ≡ ((int_lt (pos 0) v && int_lt (pos 0) x) && int_lt s (pos 0))
cross_down n m x y u v s k a b c d e f = grind (arith, ints)

cross_none : (n m x y : ℤ) → n ≡ pos 0 → (are_opposite n m && are_opposite x y) ≡ false
cross_none n m x y h = grind (arith, ints)

crosses_is : (p q : Point) (w : Segment) → crosses p q w
    ≡ (are_opposite (cross_of (vector p w.a) (vector p w.b)) (orient_of w.a w.b q)
    && are_opposite (cross_of (vector p q) (vector p w.a)) (cross_of (vector p q) (vector p w.b)))
unfolding cross_properly
crosses_is p q w = ap (λ t. are_opposite t (orient_of w.a w.b q)
    && are_opposite (orient_of p q w.a) (orient_of p q w.b)) (orient_is_cross w.a w.b p)

-- a segment crosses a wall or screen exactly where it is seen, spanned, and the far end is strictly behind it
pub crosses_where : (p q : Point) (w : Segment) → crosses p q w ≡ crossed_where (vector p q) (seen_of p w)
unfolding seen_of
crosses_where p q w =
    let a = vector p w.a in
    let b = vector p w.b in
    let d = vector p q in
    crosses_is p q w ∙
    by_lt_z (pos 0) (cross_of a b)
    (λ n_up. cross_up (cross_of a b) (orient_of w.a w.b q) (cross_of d a) (cross_of d b) (cross_of a d)
    (cross_of b d) _ n_up (cross_of_exchanged d a) (cross_of_exchanged d b) (orient_is_side w.a w.b q p) refl
    ∙ sym (ap (crossed_where d) (pick (int_lt (pos 0) (cross_of a b)) _ _ (positive_tested _ n_up))))
    (λ n_low. by_lt_z (cross_of a b) (pos 0)
    (λ n_down. cross_down (cross_of a b) (orient_of w.a w.b q) (cross_of d a) (cross_of d b) (cross_of a d)
    (cross_of b d) _ (cross_of b a) n_down (cross_of_exchanged d a) (cross_of_exchanged d b)
    (cross_of_exchanged a b) (orient_is_side w.a w.b q p) refl
    ∙ sym (ap (crossed_where d) (skip (int_lt (pos 0) (cross_of a b)) _ _ (not_positive_tested _ n_low)
    ∙ pick (int_lt (cross_of a b) (pos 0)) _ _ (negative_tested _ n_down))))
    (λ n_high. cross_none (cross_of a b) (orient_of w.a w.b q) (cross_of d a) (cross_of d b)
    (is_none _ n_low n_high)
    ∙ sym (ap (crossed_where d) (skip (int_lt (pos 0) (cross_of a b)) _ _ (not_positive_tested _ n_low)
    ∙ skip (int_lt (cross_of a b) (pos 0)) _ _ (not_down _ n_high)))))

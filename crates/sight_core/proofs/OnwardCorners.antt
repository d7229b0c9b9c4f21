-- A corner, as a ray runs into it from p and from a later point q of the ray that p sees.
--
-- Seen from q, a corner on the ray's line is one step nearer, and its cone has the same directions. A corner within
-- the first step that has the ray's direction in its cone is in the way of the segment from p to q, which sight
-- excludes.
use Rattle.std.proofs.Common.{◌≡◌, Bool, true, false, not, ◌&&◌, ◌||◌, ℤ, pos, neg_ℤ, ◌+ℤ◌, ◌-ℤ◌, ◌*ℤ◌, ◌<ℤ◌, ◌≤ℤ◌, ◌⊎◌, inl, inr, refl, sym, ap, ◌∙◌, arith}
use Rattle.std.specs.Prelude.{int_lt, int_le, Option, Some, None, if◌then◌else◌}
use Rattle.std.specs.Ordering.{int_eq}
use Rattle.std.proofs.lemmas.Int.{ints, by_lt_z}
use Rattle.std.proofs.lemmas.Bool.{and_parts, false_from_ne_true}
use Rattle.int_laws.proofs.Ring.{times_minus, minus_times, product_swapped, product_grouped, times_zero, zero_times, dot_times, dot_times_across}
use Rattle.int_laws.proofs.Signs.{negative_product, not_negative_product, opposite_product, not_positive_factor}
use Rattle.int_laws.proofs.Tests.{tested_equal, equal_tested, same_test}
use Rattle.plane_spec.specs.declared.Point.{Point}
use Rattle.plane_spec.specs.declared.Corner.{Corner}
use Rattle.plane_spec.specs.Vectors.{vector, cross_of, dot_of, orient_of, turns_left, same_point}
use Rattle.plane_spec.specs.Segments.{is_between, is_on_segment}
use Rattle.plane_spec.specs.Cones.{is_in_cone}
use Rattle.plane_spec.specs.Fractions.{Fraction, is_before}
use Rattle.sight_spec.specs.Sight.{corner_stops, corner_blocks}
use Rattle.sight_spec.specs.Stops.{corner_hit}
use Rattle.sight_core.specs.Hits.{one_less}
use Rattle.sight_core.proofs.OnwardWalls.{is_earlier, is_step_earlier, left_of_later}

-- a point is one step nearer along the ray
dot_later : (p q x : Point)
    → dot_of (vector p q) (vector q x) ≡ dot_of (vector p q) (vector p x) -ℤ dot_of (vector p q) (vector p q)
dot_later p q x =
    let dx = q.x -ℤ p.x in
    let dy = q.y -ℤ p.y in
    let one = times_minus dx x.x q.x in
    let two = times_minus dy x.y q.y in
    let three = times_minus dx x.x p.x in
    let four = times_minus dy x.y p.y in
    let five = times_minus dx q.x p.x in
    let six = times_minus dy q.y p.y in
    omega (arith, ints, one, two, three, four, five, six)

abbrev by_corner : Bool → ℤ → ℤ → Bool → Option Fraction
by_corner line n k cone = if line && (int_le (pos 0) n && cone) then Some (record { num = n; den = k }) else None

hit_is : (p d : Point) (c : Corner)
    → corner_hit p d c ≡ by_corner (int_eq (cross_of d (vector p c.here)) (pos 0)) (dot_of d (vector p c.here)) (dot_of d d) (is_in_cone c d)
unfolding corner_hit
hit_is p d c = refl

hit_later : (p q : Point) (c : Corner) → corner_hit q (vector p q) c
    ≡ by_corner (int_eq (cross_of (vector p q) (vector p c.here)) (pos 0))
    (dot_of (vector p q) (vector p c.here) -ℤ dot_of (vector p q) (vector p q)) (dot_of (vector p q) (vector p q)) (is_in_cone c (vector p q))
hit_later p q c = hit_is q (vector p q) c ∙ rw (left_of_later p q c.here, dot_later p q c.here) refl

-- ---- within the first step

-- m is n times a number of at least 0 and below 1
between_scaled : (t k m n : ℤ) → pos 0 ≤ℤ t → t <ℤ k → t *ℤ n ≡ m *ℤ k
    → ((pos 0 ≤ℤ m) × (m ≤ℤ n)) ⊎ ((m ≤ℤ pos 0) × (n ≤ℤ m))
between_scaled t k m n low high e =
    let one = times_minus n k t in
    let two = product_swapped n t in
    let three = minus_times n m k in
    let four = product_swapped n k in
    by_lt_z n (pos 0)
    (λ down.
    let five = opposite_product n t (omega (arith, ints, down)) low in
    let six = opposite_product n (k -ℤ t) (omega (arith, ints, down)) (omega (arith, ints, high)) in
    inr (
      not_positive_factor m k (omega (arith, ints, five, two, e)) (omega (arith, ints, low, high)),
      (let seven = not_positive_factor (n -ℤ m) k (omega (arith, ints, six, one, two, three, four, e)) (omega (arith, ints, low, high)) in omega (arith, ints, seven)),
    ))
    (λ up.
    let five = not_negative_product n t up low in
    let six = not_negative_product n (k -ℤ t) up (omega (arith, ints, high)) in
    let k_up : pos 0 <ℤ k = omega (arith, ints, low, high) in
    inl (
      by_lt_z m (pos 0) (λ less. let seven = negative_product m k less k_up in absurd (omega (arith, ints, seven, five, two, e))) (λ h. h),
      by_lt_z n m (λ less. let seven = negative_product (n -ℤ m) k (omega (arith, ints, less)) k_up in absurd (omega (arith, ints, seven, six, one, two, three, four, e))) (λ h. h),
    ))

between_by : (c p q : ℤ)
    → ((pos 0 ≤ℤ (c -ℤ p)) × ((c -ℤ p) ≤ℤ (q -ℤ p))) ⊎ (((c -ℤ p) ≤ℤ pos 0) × ((q -ℤ p) ≤ℤ (c -ℤ p)))
    → is_between c p q ≡ true
between_by c p q (inl h) = let one = h.0 in let two = h.1 in grind (arith, ints)
between_by c p q (inr h) = let one = h.0 in let two = h.1 in grind (arith, ints)

-- v in line with d is d times the quotient of their dot products
x_scaled : (v d : Point) → cross_of d v ≡ pos 0 → dot_of d v *ℤ d.x ≡ v.x *ℤ dot_of d d
x_scaled v d line =
    let one = product_swapped v.x d.x in
    let two = product_swapped v.y d.y in
    let three = product_swapped v.x d.y in
    let four = product_swapped v.y d.x in
    let dot_is : v.x *ℤ d.x +ℤ v.y *ℤ d.y ≡ dot_of d v = omega (arith, ints, one, two) in
    let cross_is : v.x *ℤ d.y -ℤ v.y *ℤ d.x ≡ pos 0 = omega (arith, ints, three, four, line) in
    let none = times_zero d.y in
    sym (ap (λ t. t *ℤ d.x) dot_is) ∙ dot_times_across v.x v.y d.x d.y ∙ ap (λ t. v.x *ℤ dot_of d d -ℤ d.y *ℤ t) cross_is
    ∙ omega (arith, ints, none)

y_scaled : (v d : Point) → cross_of d v ≡ pos 0 → dot_of d v *ℤ d.y ≡ v.y *ℤ dot_of d d
y_scaled v d line =
    let one = product_swapped v.x d.x in
    let two = product_swapped v.y d.y in
    let three = product_swapped v.x d.y in
    let four = product_swapped v.y d.x in
    let dot_is : v.x *ℤ d.x +ℤ v.y *ℤ d.y ≡ dot_of d v = omega (arith, ints, one, two) in
    let cross_is : v.x *ℤ d.y -ℤ v.y *ℤ d.x ≡ pos 0 = omega (arith, ints, three, four, line) in
    let none = times_zero d.x in
    sym (ap (λ t. t *ℤ d.y) dot_is) ∙ dot_times v.x v.y d.x d.y ∙ ap (λ t. v.y *ℤ dot_of d d +ℤ d.x *ℤ t) cross_is
    ∙ omega (arith, ints, none)

-- directions of which positive multiples agree have the same ones to their right
left_alike : (e w d : Point) (k t : ℤ) → pos 1 ≤ℤ k → pos 1 ≤ℤ t → w.x *ℤ k ≡ d.x *ℤ t → w.y *ℤ k ≡ d.y *ℤ t
    → turns_left e w ≡ turns_left e d
left_alike e w d k t k_up t_up x y =
    let crossed : cross_of e w *ℤ k ≡ cross_of e d *ℤ t =
    minus_times (e.x *ℤ w.y) (e.y *ℤ w.x) k
    ∙ ap (λ u. u -ℤ (e.y *ℤ w.x) *ℤ k) (product_grouped e.x w.y k ∙ ap (λ u. e.x *ℤ u) y ∙ sym (product_grouped e.x d.y t))
    ∙ ap (λ u. (e.x *ℤ d.y) *ℤ t -ℤ u) (product_grouped e.y w.x k ∙ ap (λ u. e.y *ℤ u) x ∙ sym (product_grouped e.y d.x t))
    ∙ sym (minus_times (e.x *ℤ d.y) (e.y *ℤ d.x) t) in
    sym (same_test (pos 0) (cross_of e w) k k_up)
    ∙ ap (λ u. int_lt (pos 0 *ℤ k) u) crossed
    ∙ ap (λ u. int_lt u (cross_of e d *ℤ t)) (zero_times k ∙ sym (zero_times t))
    ∙ same_test (pos 0) (cross_of e d) t t_up

rest_scaled : (c p q t k : ℤ) → t *ℤ (q -ℤ p) ≡ (c -ℤ p) *ℤ k → (q -ℤ c) *ℤ k ≡ (q -ℤ p) *ℤ (k -ℤ t)
rest_scaled c p q t k e =
    let one = times_minus (q -ℤ p) k t in
    let two = product_swapped (q -ℤ p) t in
    let three = minus_times (q -ℤ p) (c -ℤ p) k in
    let same : (q -ℤ p) -ℤ (c -ℤ p) ≡ q -ℤ c = omega (arith, ints) in
    sym (ap (λ u. u *ℤ k) same) ∙ three ∙ omega (arith, ints, one, two, e)

cone_alike : (c : Corner) (w d : Point) (k t : ℤ) → pos 1 ≤ℤ k → pos 1 ≤ℤ t → w.x *ℤ k ≡ d.x *ℤ t → w.y *ℤ k ≡ d.y *ℤ t
    → is_in_cone c w ≡ is_in_cone c d
unfolding is_in_cone
cone_alike c w d k t k_up t_up x y =
    rw (left_alike (vector c.prev c.here) w d k t k_up t_up x y, left_alike (vector c.here c.next) w d k t k_up t_up x y) refl

-- a corner in the ray's way within the first step is in the way of the segment
within_stops : (p q : Point) (c : Corner) → cross_of (vector p q) (vector p c.here) ≡ pos 0
    → pos 0 ≤ℤ dot_of (vector p q) (vector p c.here)
    → dot_of (vector p q) (vector p c.here) <ℤ dot_of (vector p q) (vector p q)
    → is_in_cone c (vector p q) ≡ true → corner_stops p q c ≡ true
unfolding corner_stops is_on_segment
within_stops p q c line low high cone =
    let d = vector p q in
    let v = vector p c.here in
    let t = dot_of d v in
    let k = dot_of d d in
    let x = x_scaled v d line in
    let y = y_scaled v d line in
    let other : same_point c.here q ≡ false =
    false_from_ne_true (same_point c.here q) (λ e.
    let parts = and_parts (int_eq c.here.x q.x) (int_eq c.here.y q.y) e in
    let same_x = tested_equal c.here.x q.x parts.0 in
    let same_y = tested_equal c.here.y q.y parts.1 in
    let same : t ≡ k = ap (λ u. d.x *ℤ (u -ℤ p.x) +ℤ d.y *ℤ (c.here.y -ℤ p.y)) same_x ∙ ap (λ u. d.x *ℤ (q.x -ℤ p.x) +ℤ d.y *ℤ (u -ℤ p.y)) same_y in
    absurd (omega (arith, ints, same, high))) in
    let x_is = between_by c.here.x p.x q.x (between_scaled t k (c.here.x -ℤ p.x) (q.x -ℤ p.x) low high x) in
    let y_is = between_by c.here.y p.y q.y (between_scaled t k (c.here.y -ℤ p.y) (q.y -ℤ p.y) low high y) in
    let straight = equal_tested (orient_of p q c.here) (pos 0) line in
    let cone_is = cone_alike c (vector c.here q) d k (k -ℤ t) (omega (arith, ints, low, high)) (omega (arith, ints, high))
    (rest_scaled c.here.x p.x q.x t k x) (rest_scaled c.here.y p.y q.y t k y) in
    rw (other, straight, x_is, y_is, cone_is, cone) refl

-- a corner
pub corner_onward : (p q : Point) (c : Corner) (f : Fraction) → pos 1 ≤ℤ dot_of (vector p q) (vector p q)
    → corner_blocks p q c ≡ false
    → is_earlier f (corner_hit q (vector p q) c) ≡ is_step_earlier f (corner_hit p (vector p q) c)
corner_onward p q c f up unblocked =
    rw (hit_later p q c, hit_is p (vector p q) c)
    (by_tests (int_eq (cross_of (vector p q) (vector p c.here)) (pos 0)) (int_le (pos 0) (t -ℤ k)) (int_le (pos 0) t) (is_in_cone c (vector p q)) refl refl refl refl)
  where
    t : ℤ
    t = dot_of (vector p q) (vector p c.here)

    k : ℤ
    k = dot_of (vector p q) (vector p q)

    by_tests : (line past ahead cone : Bool) → int_eq (cross_of (vector p q) (vector p c.here)) (pos 0) ≡ line
        → int_le (pos 0) (t -ℤ k) ≡ past
        → int_le (pos 0) t ≡ ahead → is_in_cone c (vector p q) ≡ cone
        → is_earlier f (if line && (past && cone) then Some (record { num = t -ℤ k; den = k }) else None)
        ≡ is_step_earlier f (if line && (ahead && cone) then Some (record { num = t; den = k }) else None)
    by_tests false past ahead cone d e g h = refl
    by_tests true false false cone d e g h = refl
    by_tests true true true true d e g h = refl
    by_tests true true true false d e g h = refl
    by_tests true true false true d e g h = absurd (omega (arith, ints, e, g, up))
    by_tests true true false false d e g h = refl
    by_tests true false true false d e g h = refl
    by_tests true false true true d e g h =
        let line = tested_equal (cross_of (vector p q) (vector p c.here)) (pos 0) d in
        let stops = within_stops p q c line (omega (arith, ints, g)) (omega (arith, ints, e)) h in
        let blocks : corner_blocks p q c ≡ true = rw stops refl in cc

-- Corners on a segment.
use Rattle.std.proofs.Common.{◌≡◌, ℤ, pos, ◌+ℤ◌, ◌-ℤ◌, ◌*ℤ◌, neg_ℤ, ◌<ℤ◌, ◌≤ℤ◌, arith, ap, ◌∙◌, ◌⊎◌, subst, inl, inr}
use Rattle.std.proofs.Common.{refl}
use Rattle.std.proofs.lemmas.Int.{ints, by_lt_z}
use Rattle.std.specs.Ordering.{int_eq}
use Rattle.std.specs.Prelude.{true, ◌&&◌, false, Bool, not}
use Rattle.plane_spec.specs.Cones.{is_in_cone}
use Rattle.plane_spec.specs.Segments.{is_between, is_on_segment}
use Rattle.plane_spec.specs.Vectors.{vector, cross_of, orient_of, same_point}
use Rattle.plane_spec.specs.declared.Corner.{Corner}
use Rattle.plane_spec.specs.declared.Point.{Point}
use Rattle.sight_spec.specs.Sight.{corner_stops}
use Rattle.int_laws.proofs.Ring.{neg_times, times_neg, product_swapped, times_minus}
use Rattle.int_laws.proofs.Signs.{not_negative_product, positive_product, positive_sum, square}
use Rattle.front_laws.proofs.Tests.{both_of, by_cases, other_of_both, tested_zero}
use Rattle.turn_laws.proofs.After.{self_of, same_cone}
use Rattle.turn_laws.specs.Turns.{AreOneWay}

-- from m on towards e is the way from s to e
onward : (m s e : ℤ) → is_between m s e ≡ true → pos 0 ≤ℤ ((e -ℤ m) *ℤ (e -ℤ s))
onward m s e h = by_lt_z e m
    (λ back. let p = not_negative_product (neg_ℤ (e -ℤ m)) (neg_ℤ (e -ℤ s)) (omega (arith, ints, back))
    (back_from m s e h back) in
    let f = neg_times (e -ℤ m) (neg_ℤ (e -ℤ s)) in let g = times_neg (e -ℤ m) (e -ℤ s) in
    omega (arith, ints, p, f, g))
    (λ ahead. by_lt_z m e
    (λ more. not_negative_product (e -ℤ m) (e -ℤ s) (omega (arith, ints, ahead)) (ahead_from m s e h more))
    (λ end. none (e -ℤ m) (e -ℤ s) (omega (arith, ints, ahead, end))))
  where
    none : (x y : ℤ) → x ≡ pos 0 → pos 0 ≤ℤ (x *ℤ y)
    none x y h = let k : x *ℤ y ≡ pos 0 *ℤ y = ap (λ t. t *ℤ y) h in omega (arith, ints, k)

    back_from : (m s e : ℤ) → is_between m s e ≡ true → e <ℤ m → pos 0 ≤ℤ neg_ℤ (e -ℤ s)
    back_from m s e h k = grind (arith, ints)

    ahead_from : (m s e : ℤ) → is_between m s e ≡ true → m <ℤ e → pos 0 ≤ℤ (e -ℤ s)
    ahead_from m s e h k = grind (arith, ints)

onward_strictly : (m s e : ℤ) → is_between m s e ≡ true → int_eq m e ≡ false → pos 0 <ℤ ((e -ℤ m) *ℤ (e -ℤ s))
onward_strictly m s e h other = by_lt_z e m
    (λ back. let p = positive_product (neg_ℤ (e -ℤ m)) (neg_ℤ (e -ℤ s)) (omega (arith, ints, back))
    (back_from m s e h back) in
    let f = neg_times (e -ℤ m) (neg_ℤ (e -ℤ s)) in let g = times_neg (e -ℤ m) (e -ℤ s) in
    omega (arith, ints, p, f, g))
    (λ ahead. let more = apart m e ahead other in
    positive_product (e -ℤ m) (e -ℤ s) (omega (arith, ints, more)) (ahead_from m s e h more))
  where
    apart : (m e : ℤ) → m ≤ℤ e → int_eq m e ≡ false → m <ℤ e
    apart m e h k = grind (arith, ints)

    back_from : (m s e : ℤ) → is_between m s e ≡ true → e <ℤ m → pos 0 <ℤ neg_ℤ (e -ℤ s)
    back_from m s e h k = grind (arith, ints)

    ahead_from : (m s e : ℤ) → is_between m s e ≡ true → m <ℤ e → pos 0 <ℤ (e -ℤ s)
    ahead_from m s e h k = grind (arith, ints)

-- the vector from a point of the segment to its end, and the whole one
pub record Onward (v p q : Point) : Type 0 where
  pub way : AreOneWay (vector v q) (vector p q)
  pub rest : AreOneWay (vector v q) (vector v q)
  pub whole : AreOneWay (vector p q) (vector p q)

sum_second : (a b : ℤ) → pos 0 ≤ℤ a → pos 0 <ℤ b → pos 0 <ℤ (a +ℤ b)
sum_second a b h k = omega (arith, ints, h, k)

square_of_first : (x y : ℤ) → pos 0 <ℤ (x *ℤ y) → pos 0 <ℤ (x *ℤ x)
square_of_first x y h = by_lt_z x (pos 0)
    (λ low. let p = positive_product (neg_ℤ x) (neg_ℤ x) (omega (arith, ints, low)) (omega (arith, ints, low)) in
    let f = neg_times x (neg_ℤ x) in let g = times_neg x x in omega (arith, ints, p, f, g))
    (λ high. by_lt_z (pos 0) x (λ up. positive_product x x up up)
    (λ none. absurd (zero x y (omega (arith, ints, high, none)) h)))
  where
    zero : (x y : ℤ) → x ≡ pos 0 → pos 0 <ℤ (x *ℤ y) → ⊥
    zero x y e h = let k : x *ℤ y ≡ pos 0 *ℤ y = ap (λ t. t *ℤ y) e in omega (arith, ints, k, h)

square_of_second : (x y : ℤ) → pos 0 <ℤ (x *ℤ y) → pos 0 <ℤ (y *ℤ y)
square_of_second x y h = square_of_first y x (subst (λ t. pos 0 <ℤ t) (product_swapped x y) h)

-- with one of the two products of coordinates positive
onward_by : (v p q : Point) → cross_of (vector v q) (vector p q) ≡ pos 0
    → pos 0 ≤ℤ ((q.x -ℤ v.x) *ℤ (q.x -ℤ p.x)) → pos 0 ≤ℤ ((q.y -ℤ v.y) *ℤ (q.y -ℤ p.y))
    → (pos 0 <ℤ ((q.x -ℤ v.x) *ℤ (q.x -ℤ p.x))) ⊎ (pos 0 <ℤ ((q.y -ℤ v.y) *ℤ (q.y -ℤ p.y))) → Onward v p q
onward_by v p q line x_up y_up (inl h) = record {
  way = record { line = line; forward = positive_sum _ _ h y_up };
  rest = self_of (vector v q) (positive_sum _ _ (square_of_first (q.x -ℤ v.x) (q.x -ℤ p.x) h) (square (q.y -ℤ v.y)));
  whole = self_of (vector p q) (positive_sum _ _ (square_of_second (q.x -ℤ v.x) (q.x -ℤ p.x) h) (square (q.y -ℤ p.y)));
}
onward_by v p q line x_up y_up (inr h) = record {
  way = record { line = line; forward = sum_second _ _ x_up h };
  rest = self_of (vector v q) (sum_second _ _ (square (q.x -ℤ v.x)) (square_of_first (q.y -ℤ v.y) (q.y -ℤ p.y) h));
  whole = self_of (vector p q) (sum_second _ _ (square (q.x -ℤ p.x)) (square_of_second (q.y -ℤ v.y) (q.y -ℤ p.y) h));
}

-- the rest of a vector is in line with it where the part is
rest_diff : (px py qx qy vx vy : ℤ) → (qx -ℤ px) *ℤ (vy -ℤ py) -ℤ (qy -ℤ py) *ℤ (vx -ℤ px) ≡ pos 0
    → (qx -ℤ vx) *ℤ (qy -ℤ py) -ℤ (qy -ℤ vy) *ℤ (qx -ℤ px) ≡ pos 0
rest_diff px py qx qy vx vy h =
    let a = times_minus (qx -ℤ px) vy py in
    let b = times_minus (qy -ℤ py) vx px in
    let c : (qx -ℤ vx) *ℤ (qy -ℤ py) ≡ (qy -ℤ py) *ℤ qx -ℤ (qy -ℤ py) *ℤ vx = product_swapped (qx -ℤ vx) (qy -ℤ py)
    ∙ times_minus (qy -ℤ py) qx vx in
    let d : (qy -ℤ vy) *ℤ (qx -ℤ px) ≡ (qx -ℤ px) *ℤ qy -ℤ (qx -ℤ px) *ℤ vy = product_swapped (qy -ℤ vy) (qx -ℤ px)
    ∙ times_minus (qx -ℤ px) qy vy in
    let e = times_minus (qx -ℤ px) qy py in
    let f : (qx -ℤ px) *ℤ (qy -ℤ py) ≡ (qy -ℤ py) *ℤ qx -ℤ (qy -ℤ py) *ℤ px = product_swapped (qx -ℤ px) (qy -ℤ py)
    ∙ times_minus (qy -ℤ py) qx px in
    omega (arith, ints, a, b, c, d, e, f, h)

-- from a point of the segment that isn't its end, the way on is the segment's own
pub onward_of : (v p q : Point) → is_on_segment v p q ≡ true → same_point v q ≡ false → Onward v p q
unfolding is_on_segment
onward_of v p q h other =
    let one = both_of (int_eq (orient_of p q v) (pos 0)) (is_between v.x p.x q.x && is_between v.y p.y q.y) h in
    let two = both_of (is_between v.x p.x q.x) (is_between v.y p.y q.y) one.1 in
    let line = rest_diff p.x p.y q.x q.y v.x v.y (tested_zero (orient_of p q v) one.0) in
    onward_by v p q line (onward v.x p.x q.x two.0) (onward v.y p.y q.y two.1)
    (by_cases (int_eq v.x q.x)
    (λ e. inr (onward_strictly v.y p.y q.y two.1 (other_of_both (int_eq v.x q.x) (int_eq v.y q.y) e other)))
    (λ e. inl (onward_strictly v.x p.x q.x two.0 e)))

-- a corner stops a segment exactly where it stands on it, before its end, with the segment's own direction in its cone
pub stops_along : (p q : Point) (c : Corner) → corner_stops p q c
    ≡ (not (same_point c.here q) && (is_on_segment c.here p q && is_in_cone c (vector p q)))
unfolding corner_stops
stops_along p q c =
    guarded (same_point c.here q) (is_on_segment c.here p q) (is_in_cone c (vector c.here q))
    (is_in_cone c (vector p q))
    (λ other on. let w = onward_of c.here p q on other in
    same_cone c (vector c.here q) (vector p q) w.way w.rest w.whole)
  where
    guarded : (s o a b : Bool) → (s ≡ false → o ≡ true → a ≡ b) → (not s && (o && a)) ≡ (not s && (o && b))
    guarded true o a b f = refl
    guarded false true a b f = f refl refl
    guarded false false a b f = refl

-- The blockers that are in the list at the start: one direction spans them all.
use Rattle.std.proofs.Common.{◌≡◌, ℤ, pos, neg_ℤ, ◌+ℤ◌, ◌-ℤ◌, ◌*ℤ◌, ◌<ℤ◌, arith, refl, ap, subst}
use Rattle.std.proofs.lemmas.Int.{ints}
use Rattle.std.specs.Prelude.{true, false, Bool, int_lt}
use Rattle.plane_spec.specs.Vectors.{point, is_upper, turns_by, cross_of, turns_before, IsDirected}
use Rattle.plane_spec.specs.declared.Point.{Point}
use Rattle.int_laws.proofs.Ring.{times_minus, neg_times, times_neg}
use Rattle.int_laws.proofs.Signs.{positive_tested, not_negative_product}
use Rattle.exact_geom.proofs.Circle.{IsUpper, above, along, lower_is, upper_is}
use Rattle.front_laws.proofs.Tests.{clash_back, both_true}
use Rattle.front_laws.specs.Seen.{Seen, spans}

-- just before (1,0)
abbrev pub just_before : ℤ → Point
just_before n = point n (neg_ℤ (pos 1))

-- what isn't in turn begins below the axis and ends above it
pub record Wraps (w : Seen) : Type 0 where
  pub from : is_upper w.from ≡ false
  pub to : is_upper w.to ≡ true

wraps_by : {P : Type 0} (u v l : Bool) → turns_by u v l ≡ false → l ≡ true → (u ≡ false → v ≡ true → P) → P
wraps_by true true l h k f = absurd (clash_back l h k)
wraps_by true false l h k f = absurd (grind arith)
wraps_by false true l h k f = f refl refl
wraps_by false false l h k f = absurd (clash_back l h k)

pub wraps_of : (w : Seen) → pos 0 <ℤ cross_of w.from w.to → turns_before w.from w.to ≡ false → Wraps w
unfolding turns_before
wraps_of w up h = wraps_by (is_upper w.from) (is_upper w.to) (int_lt (pos 0) (cross_of w.from w.to)) h
    (positive_tested _ up) (λ from to. record { from = from; to = to })

-- much of a whole number above 0 outweighs what is less
outweighs : (n x y : ℤ) → pos 0 <ℤ y → neg_ℤ n <ℤ x → x <ℤ n → pos 0 <ℤ (n *ℤ y +ℤ x)
outweighs n x y up low high =
    let g = not_negative_product n (y -ℤ pos 1) (omega (arith, ints, low, high)) (omega (arith, ints, up)) in
    let e = times_minus n y (pos 1) in
    let o : n *ℤ pos 1 ≡ n = one n in
    omega (arith, ints, g, e, o, low)
  where
    one : (n : ℤ) → n *ℤ pos 1 ≡ n
    one n = omega (arith, ints)

to_part : (n x y : ℤ) → IsUpper x y → neg_ℤ n <ℤ x → x <ℤ n → pos 0 <ℤ (n *ℤ y +ℤ x)
to_part n x y (above up) low high = outweighs n x y up low high
to_part n x y (along flat right) low high = flat_part n x y flat right
  where
    flat_part : (n x y : ℤ) → y ≡ pos 0 → pos 0 <ℤ x → pos 0 <ℤ (n *ℤ y +ℤ x)
    flat_part n x y h k = let e : n *ℤ y ≡ n *ℤ pos 0 = ap (λ t. n *ℤ t) h in omega (arith, ints, e, k)

after_start : (n x y : ℤ) → n *ℤ y +ℤ x ≡ n *ℤ y -ℤ neg_ℤ (pos 1) *ℤ x
after_start n x y = let e = neg_times (pos 1) x in omega (arith, ints, e)

before_start : (n x y : ℤ) → n *ℤ neg_ℤ y +ℤ neg_ℤ x ≡ x *ℤ neg_ℤ (pos 1) -ℤ y *ℤ n
before_start n x y = let e = times_neg n y in let f = times_neg x (pos 1) in omega (arith, ints, e, f)

-- the direction just before (1,0) spans each of them
pub spans_at_start : (n : ℤ) (w : Seen) → IsDirected w.from → Wraps w
    → neg_ℤ n <ℤ w.from.x → w.from.x <ℤ n → neg_ℤ n <ℤ w.to.x → w.to.x <ℤ n → spans (just_before n) w ≡ true
spans_at_start n w from_some h a b c e =
    both_true (int_lt (pos 0) (cross_of w.from (just_before n))) (int_lt (pos 0) (cross_of (just_before n) w.to))
    (positive_tested _ (subst (λ t. pos 0 <ℤ t) (before_start n w.from.x w.from.y)
    (to_part n (neg_ℤ w.from.x) (neg_ℤ w.from.y) (lower_is w.from from_some h.from) (omega (arith, ints, b))
    (omega (arith, ints, a)))))
    (positive_tested _ (subst (λ t. pos 0 <ℤ t) (after_start n w.to.x w.to.y)
    (to_part n w.to.x w.to.y (upper_is w.to h.to) c e)))

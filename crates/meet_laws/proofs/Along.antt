-- The point p + t d lies on the line through p in direction d, at the parameter t; and so beyond either of two points.
use Rattle.std.proofs.Common.{◌≡◌, sym, ap, arith, ℤ, pos, neg_ℤ, ◌+ℤ◌, ◌-ℤ◌, ◌*ℤ◌, ◌≤ℤ◌}
use Rattle.std.proofs.lemmas.Int.{ints}
use Rattle.int_laws.proofs.Ring.{sum_times, neg_times, times_minus, product_swapped}
use Rattle.int_laws.proofs.Tests.{tested_equal}
use Rattle.plane_spec.specs.declared.Point.{Point}
use Rattle.plane_spec.specs.Vectors.{vector}
use Rattle.plane_spec.specs.Fractions.{Fraction, reduced, shifted, along, whole_point, whole}
use Rattle.exact_geom.proofs.Lowest.{reduced_is_reduced}
use Rattle.exact_geom.proofs.Values.{reduced_keeps_value}
use Rattle.meet_laws.specs.Stretches.{HasValue, IsAt}
use Rattle.meet_laws.proofs.Values.{value_as}

reduced_value : (f : Fraction) → pos 1 ≤ℤ f.den → HasValue (reduced f) f.num f.den
reduced_value f up = record {
  part = (reduced_is_reduced f up).positive;
  over = up;
  equal = sym (tested_equal (f.num *ℤ (reduced f).den) ((reduced f).num *ℤ f.den) (reduced_keeps_value f));
}

shifted_value : (z d : ℤ) (t : Fraction) → pos 1 ≤ℤ t.den → HasValue (shifted z d t) (z *ℤ t.den +ℤ t.num *ℤ d) t.den
shifted_value z d t up = reduced_value (record { num = z *ℤ t.den +ℤ t.num *ℤ d; den = t.den }) up

pub along_is_at : (p d : Point) (t : Fraction) → pos 1 ≤ℤ t.den → IsAt (along p d t) p d t.num t.den
unfolding along
along_is_at p d t up = record { x = shifted_value p.x d.x t up; y = shifted_value p.y d.y t up }

-- ---- beyond one of two points, on the line from the one to the other

-- away from q at p, by the parameter t, is at the parameter -t
backwards : (p q m n : ℤ) → p *ℤ m +ℤ n *ℤ (p -ℤ q) ≡ p *ℤ m +ℤ neg_ℤ n *ℤ (q -ℤ p)
backwards p q m n =
    let e = neg_times n (q -ℤ p) in
    let f = times_minus n p q in
    let g = times_minus n q p in
    omega (arith, ints, e, f, g)

-- away from p at q, by the parameter t, is at the parameter t + 1
onwards : (p q m n : ℤ) → q *ℤ m +ℤ n *ℤ (q -ℤ p) ≡ p *ℤ m +ℤ (n +ℤ m) *ℤ (q -ℤ p)
onwards p q m n =
    let e = sum_times n m (q -ℤ p) in
    let f = times_minus m q p in
    let g = product_swapped m q in
    let h = product_swapped m p in
    omega (arith, ints, e, f, g, h)

pub before_is_at : (p q : Point) (t : Fraction) → pos 1 ≤ℤ t.den
    → IsAt (along p (vector q p) t) p (vector p q) (neg_ℤ t.num) t.den
unfolding along
before_is_at p q t up = record {
  x = value_as _ _ _ _ (backwards p.x q.x t.den t.num) (shifted_value p.x (p.x -ℤ q.x) t up);
  y = value_as _ _ _ _ (backwards p.y q.y t.den t.num) (shifted_value p.y (p.y -ℤ q.y) t up);
}

pub beyond_is_at : (p q : Point) (t : Fraction) → pos 1 ≤ℤ t.den
    → IsAt (along q (vector p q) t) p (vector p q) (t.num +ℤ t.den) t.den
unfolding along
beyond_is_at p q t up = record {
  x = value_as _ _ _ _ (onwards p.x q.x t.den t.num) (shifted_value q.x (q.x -ℤ p.x) t up);
  y = value_as _ _ _ _ (onwards p.y q.y t.den t.num) (shifted_value q.y (q.y -ℤ p.y) t up);
}

whole_value : (z n : ℤ) → z ≡ n → HasValue (whole z) n (pos 1)
whole_value z n e = record {
  part = omega (arith, ints);
  over = omega (arith, ints);
  equal = ap (λ t. t *ℤ pos 1) e;
}

-- p is at the parameter 0
pub first_is_at : (p d : Point) → IsAt (whole_point p) p d (pos 0) (pos 1)
first_is_at p d = record {
  x = whole_value p.x (p.x *ℤ pos 1 +ℤ pos 0 *ℤ d.x) (omega (arith, ints));
  y = whole_value p.y (p.y *ℤ pos 1 +ℤ pos 0 *ℤ d.y) (omega (arith, ints));
}

-- q is at the parameter 1
pub second_is_at : (p q : Point) → IsAt (whole_point q) p (vector p q) (pos 1) (pos 1)
second_is_at p q = record {
  x = whole_value q.x (p.x *ℤ pos 1 +ℤ pos 1 *ℤ (q.x -ℤ p.x)) (omega (arith, ints));
  y = whole_value q.y (p.y *ℤ pos 1 +ℤ pos 1 *ℤ (q.y -ℤ p.y)) (omega (arith, ints));
}

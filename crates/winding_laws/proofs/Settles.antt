-- Near a point the winding settles: from some enlargement on it stays the same.
use Rattle.std.specs.Prelude.{int_lt, false, true, int_le, Bool, List, map, [], ◌∷◌}
use Rattle.std.proofs.Common.{ℕ, ◌≡◌, neg_ℤ, pos, ℤ, arith, ap, ◌+ℤ◌, ◌*ℤ◌, ◌∙◌, ◌<ℤ◌, ◌-ℤ◌, refl}
use Rattle.std.proofs.lemmas.Int.{by_lt_z, ints}
use Rattle.int_laws.proofs.Ring.{times_neg, times_zero, times_minus}
use Rattle.plane_spec.specs.declared.Point.{Point}
use Rattle.plane_spec.specs.declared.Segment.{Segment}
use Rattle.plane_spec.specs.Vectors.{cross_of, orient_of, vector}
use Rattle.plane_laws.specs.Enlarged.{enlarged_wall}
use Rattle.winding_laws.specs.Windings.{wind, winding, near}
use Rattle.winding_laws.proofs.Near.{Eventually, Leads, constant, linear, square, value_at, eventually_positive}
use Rattle.winding_laws.proofs.Near.{eventually_then, eventually_both}
use Rattle.winding_laws.proofs.Strips.{side_near, HasWinding}
use Rattle.winding_laws.proofs.OneEdge.{wind_by, wind_is}

-- a value that is the same from some number on
record Settled {X : Type 0} (value : ℕ → X) : Type 0 where
  is : X
  same : Eventually (λ n. value n ≡ is)

-- the sign of a value n n a + n b + c settles
data Sign (a b c : ℤ) : Type 0 where
  up : Leads a b c → Sign a b c
  down : Leads (neg_ℤ a) (neg_ℤ b) (neg_ℤ c) → Sign a b c
  none : a ≡ pos 0 → b ≡ pos 0 → c ≡ pos 0 → Sign a b c

sign : (a b c : ℤ) → Sign a b c
sign a b c =
    by_lt_z (pos 0) a (λ p. up (square p))
    (λ p. by_lt_z a (pos 0) (λ q. down (square (omega (arith, ints, q))))
    (λ q. let a_none : a ≡ pos 0 = omega (arith, ints, p, q) in
    by_lt_z (pos 0) b (λ r. up (linear a_none r))
    (λ r. by_lt_z b (pos 0) (λ s. down (linear (omega (arith, ints, a_none)) (omega (arith, ints, s))))
    (λ s. let b_none : b ≡ pos 0 = omega (arith, ints, r, s) in
    by_lt_z (pos 0) c (λ t. up (constant a_none b_none t))
    (λ t. by_lt_z c (pos 0) (λ u. down (constant (omega (arith, ints, a_none)) (omega (arith, ints, b_none))
    (omega (arith, ints, u))))
    (λ u. none a_none b_none (omega (arith, ints, t, u))))))))

value_neg : (n : ℕ) (a b c : ℤ) → value_at n (neg_ℤ a) (neg_ℤ b) (neg_ℤ c) ≡ neg_ℤ (value_at n a b c)
value_neg n a b c =
    let e = times_neg (pos n) a in
    let s : pos n *ℤ neg_ℤ a +ℤ neg_ℤ b ≡ neg_ℤ (pos n *ℤ a +ℤ b) = omega (arith, ints, e) in
    let f = ap (λ t. pos n *ℤ t) s ∙ times_neg (pos n) (pos n *ℤ a +ℤ b) in
    omega (arith, ints, f)

value_none : (n : ℕ) (a b c : ℤ) → a ≡ pos 0 → b ≡ pos 0 → c ≡ pos 0 → value_at n a b c ≡ pos 0
value_none n a b c e f g =
    let h = ap (λ t. pos n *ℤ t) e ∙ times_zero (pos n) in
    let s : pos n *ℤ a +ℤ b ≡ pos 0 = omega (arith, ints, h, f) in
    let i = ap (λ t. pos n *ℤ t) s ∙ times_zero (pos n) in
    omega (arith, ints, i, g)

-- tests for the sign settle
record Signs (value : ℕ → ℤ) : Type 0 where
  positive : Settled (λ n. int_lt (pos 0) (value n))
  negative : Settled (λ n. int_lt (value n) (pos 0))

signs : (a b c : ℤ) → Signs (λ n. value_at n a b c)
signs a b c = by_sign (sign a b c)
  where
    both_up : (n : ℕ) → pos 0 <ℤ value_at n a b c → (int_lt (pos 0) (value_at n a b c) ≡ true)
        × (int_lt (value_at n a b c) (pos 0) ≡ false)
    both_up n h = (tested (value_at n a b c) h, not_tested (value_at n a b c) h)
      where
        tested : (z : ℤ) → pos 0 <ℤ z → int_lt (pos 0) z ≡ true
        tested z h = grind (arith, ints)

        not_tested : (z : ℤ) → pos 0 <ℤ z → int_lt z (pos 0) ≡ false
        not_tested z h = grind (arith, ints)

    both_down : (n : ℕ) → pos 0 <ℤ value_at n (neg_ℤ a) (neg_ℤ b) (neg_ℤ c)
        → (int_lt (pos 0) (value_at n a b c) ≡ false) × (int_lt (value_at n a b c) (pos 0) ≡ true)
    both_down n h =
        let e = value_neg n a b c in (
          not_tested (value_at n a b c) (omega (arith, ints, e, h)),
          tested
              (value_at n a b c) (omega (arith, ints, e, h)),
        )
      where
        tested : (z : ℤ) → z <ℤ pos 0 → int_lt z (pos 0) ≡ true
        tested z h = grind (arith, ints)

        not_tested : (z : ℤ) → z <ℤ pos 0 → int_lt (pos 0) z ≡ false
        not_tested z h = grind (arith, ints)

    by_sign : Sign a b c → Signs (λ n. value_at n a b c)
    by_sign (up h) =
        let e = eventually_positive a b c h in
        record {
          positive = record {
            is = true;
            same = eventually_then (λ n. pos 0 <ℤ value_at n a b c)
                (λ n. int_lt (pos 0) (value_at n a b c) ≡ true) (λ n k. (both_up n k).0) e;
          };
          negative = record {
            is = false;
            same = eventually_then (λ n. pos 0 <ℤ value_at n a b c)
                (λ n. int_lt (value_at n a b c) (pos 0) ≡ false) (λ n k. (both_up n k).1) e;
          };
        }
    by_sign (down h) =
        let e = eventually_positive (neg_ℤ a) (neg_ℤ b) (neg_ℤ c) h in
        record {
          positive = record {
            is = false;
            same = eventually_then
                (λ n. pos 0 <ℤ value_at n (neg_ℤ a) (neg_ℤ b) (neg_ℤ c))
                (λ n. int_lt (pos 0) (value_at n a b c) ≡ false) (λ n k. (both_down n k).0) e;
          };
          negative = record {
            is = true;
            same = eventually_then
                (λ n. pos 0 <ℤ value_at n (neg_ℤ a) (neg_ℤ b) (neg_ℤ c)) (λ n. int_lt (value_at n a b c) (pos 0) ≡ true)
                (λ n k. (both_down n k).1) e;
          };
        }
    by_sign (none e f g) =
        record {
          positive = record {
            is = false;
            same = record {
              after = 0;
              from_there = λ n l. ap (λ t. int_lt (pos 0) t) (value_none n a b c e f g);
            };
          };
          negative = record {
            is = false;
            same = record {
              after = 0;
              from_there = λ n l. ap (λ t. int_lt t (pos 0)) (value_none n a b c e f g);
            };
          };
        }

low_is : (n : ℕ) (a x d : ℤ) → int_le (pos n *ℤ a) (pos n *ℤ x +ℤ d) ≡ int_le (pos 0) (value_at n (pos 0) (x -ℤ a) d)
low_is n a x d = shifted (pos n *ℤ a) (pos n *ℤ x +ℤ d) (value_at n (pos 0) (x -ℤ a) d) apart
  where
    shifted : (p q r : ℤ) → r ≡ q -ℤ p → int_le p q ≡ int_le (pos 0) r
    shifted p q r e = grind (arith, ints)

    apart : value_at n (pos 0) (x -ℤ a) d ≡ (pos n *ℤ x +ℤ d) -ℤ pos n *ℤ a
    apart =
        let z = times_zero (pos n) in
        let s : pos n *ℤ pos 0 +ℤ (x -ℤ a) ≡ x -ℤ a = omega (arith, ints, z) in
        let e = ap (λ t. pos n *ℤ t) s ∙ times_minus (pos n) x a in
        omega (arith, ints, e)

abbrev flip : Bool → Bool
flip true = false
flip false = true

not_below : (z : ℤ) (t : Bool) → int_lt z (pos 0) ≡ t → int_le (pos 0) z ≡ flip t
not_below z true h = grind (arith, ints)
not_below z false h = grind (arith, ints)

low_settles : (a x d : ℤ) → Settled (λ n. int_le (pos n *ℤ a) (pos n *ℤ x +ℤ d))
low_settles a x d =
    let s = (signs (pos 0) (x -ℤ a) d).negative in
    record {
      is = flip s.is;
      same =
          eventually_then (λ n. int_lt (value_at n (pos 0) (x -ℤ a) d) (pos 0) ≡ s.is)
          (λ n. int_le (pos n *ℤ a) (pos n *ℤ x +ℤ d) ≡ flip s.is)
          (λ n h. low_is n a x d ∙ not_below (value_at n (pos 0) (x -ℤ a) d) s.is h) s.same;
    }

wind_settles : (f : Segment) (x d : Point) → Settled (λ n. wind (near n x d) (enlarged_wall n f))
wind_settles f x d =
    let first = low_settles f.a.y x.y d.y in
    let second = low_settles f.b.y x.y d.y in
    let side = signs (orient_of f.a f.b x) (cross_of (vector f.a f.b) d) (pos 0) in
    let third = side.positive in
    let fourth = side.negative in
    record {
      is = wind_by first.is second.is third.is fourth.is;
      same =
          eventually_then _
          (λ n. wind (near n x d) (enlarged_wall n f) ≡ wind_by first.is second.is third.is fourth.is)
          (λ n h. wind_is (near n x d) (enlarged_wall n f)
          ∙ four (int_le (pos n *ℤ f.a.y) (pos n *ℤ x.y +ℤ d.y))
          (int_le (pos n *ℤ f.b.y) (pos n *ℤ x.y +ℤ d.y)) _ _ first.is second.is third.is fourth.is h.0.0 h.0.1
          (ap (λ t. int_lt (pos 0) t) (side_near n f.a f.b x d) ∙ h.1.0)
          (ap (λ t. int_lt t (pos 0)) (side_near n f.a f.b x d) ∙ h.1.1))
          (eventually_both (λ n. (int_le (pos n *ℤ f.a.y) (pos n *ℤ x.y +ℤ d.y) ≡ first.is) ×
          (int_le (pos n *ℤ f.b.y) (pos n *ℤ x.y +ℤ d.y) ≡ second.is))
          (λ n. (int_lt (pos 0) (value_at n (orient_of f.a f.b x) (cross_of (vector f.a f.b) d) (pos 0)) ≡ third.is) ×
          (int_lt (value_at n (orient_of f.a f.b x) (cross_of (vector f.a f.b) d) (pos 0)) (pos 0) ≡ fourth.is))
          (eventually_both (λ n. int_le (pos n *ℤ f.a.y) (pos n *ℤ x.y +ℤ d.y) ≡ first.is)
          (λ n. int_le (pos n *ℤ f.b.y) (pos n *ℤ x.y +ℤ d.y) ≡ second.is) first.same second.same)
          (eventually_both (λ n. int_lt (pos 0) (value_at n (orient_of f.a f.b x) (cross_of (vector f.a f.b) d)
          (pos 0)) ≡ third.is)
          (λ n. int_lt (value_at n (orient_of f.a f.b x) (cross_of (vector f.a f.b) d) (pos 0))
          (pos 0) ≡ fourth.is) third.same fourth.same));
    }
  where
    four : (a b c e a' b' c' e' : Bool) → a ≡ a' → b ≡ b' → c ≡ c' → e ≡ e' → wind_by a b c e ≡ wind_by a' b' c' e'
    four a b c e a' b' c' e' h i j k = rw (h, i, j, k) refl

-- near each point and in each direction the winding settles
pub some_winding : (edges : List Segment) (x d : Point) → (k : ℤ) × HasWinding edges x d k
some_winding [] x d = (pos 0, record { after = 0; from_there = λ n l. refl })
some_winding (f ∷ edges) x d =
    let first = wind_settles f x d in
    let rest = some_winding edges x d in (
      first.is +ℤ rest.0,
      eventually_then (λ n. (wind (near n x d) (enlarged_wall n f) ≡ first.is) ×
          (winding (near n x d) (map (enlarged_wall n) edges) ≡ rest.0))
          (λ n. winding (near n x d) (map (enlarged_wall n) (f ∷ edges)) ≡ first.is +ℤ rest.0)
          (λ n h. sums _ _ _ _ h.0 h.1)
          (eventually_both (λ n. wind (near n x d) (enlarged_wall n f) ≡ first.is)
          (λ n. winding (near n x d) (map (enlarged_wall n) edges) ≡ rest.0) first.same rest.1),
    )
  where
    sums : (a b c d : ℤ) → a ≡ c → b ≡ d → a +ℤ b ≡ c +ℤ d
    sums a b c d e f = omega (arith, ints, e, f)

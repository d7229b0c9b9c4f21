-- How far lines reach, in lowest terms.
--
-- Fractions over positive denominators are ordered by their values, several of which may be one fraction's. Lowest
-- terms
-- keep the value, since both parts are multiplied by the common divisor, which is positive; so a spot that lies in a
-- box
-- does so in lowest terms. The stop of a ray is the least of its hits in lowest terms, and so at least 0.
use Rattle.std.proofs.Common.{◌≡◌, ◌∙◌, Bool, true, false, ℤ, pos, ◌+ℤ◌, ◌*ℤ◌, ◌≤ℤ◌, ◌<ℤ◌}
use Rattle.std.proofs.Common.{Option, Some, None, arith, sym, ap, subst}
use Rattle.std.specs.Prelude.{int_lt}
use Rattle.std.specs.Option.{option_map}
use Rattle.std.proofs.lemmas.Int.{ints, by_lt_z}
use Rattle.int_laws.proofs.Ring.{product_swapped, product_grouped, product_turned, minus_times}
use Rattle.int_laws.proofs.Tests.{tested_less, less_tested}
use Rattle.plane_spec.specs.declared.Point.{Point}
use Rattle.plane_spec.specs.declared.PlanBox.{PlanBox}
use Rattle.plane_spec.specs.Lists.{min_by}
use Rattle.plane_spec.specs.Vectors.{vector, dot_of, same_point, point}
use Rattle.exact_geom.proofs.Circle.{dot_itself}
use Rattle.plane_spec.specs.Fractions.{Fraction, whole, is_before, reduced}
use Rattle.exact_geom.proofs.Lowest.{divisor_of, divisor_is_positive, reduced_is_reduced}
use Rattle.exact_geom.proofs.Values.{numerator_is, denominator_is}
use Rattle.sight_spec.specs.Scene.{Scene}
use Rattle.sight_spec.specs.Stops.{hits_of, stop_of}
use Rattle.box_laws.proofs.Touching.{order_stays}
use Rattle.box_laws.proofs.Crossing.{strictly_stays}
use Rattle.spot_laws.proofs.Spots.{Spot, spot_at, spots_meet_box, SpotIn, ending_meets}
use Rattle.std.specs.Option.{IfSome}
use Rattle.list_laws.specs.Orders.{IsWeakOrder}
use Rattle.list_laws.proofs.Least.{least_has}
use Rattle.extent_laws.proofs.Hits.{IsHit, Touch, all_hits}
use Rattle.spot_laws.proofs.Factors.{not_negative, from_one, to_one, outer_exchanged, cancel_le, cancel_lt}

-- ---- the order of fractions over positive numbers

-- hits are ordered by their values
pub hits_ordered : IsWeakOrder IsHit is_before
hits_ordered = record {
  one_way = λ r s h. one_way (r.num *ℤ s.den) (s.num *ℤ r.den) h;
  through = λ x y z qx qy qz h k. through x.num x.den y.num y.den z.num z.den qx.over.den qy.over.den qz.over.den h
      k;
}
  where
    one_way : (s t : ℤ) → int_lt s t ≡ true → int_lt t s ≡ false
    one_way s t h = grind (arith, ints)

    joined : (a b c d e f : ℤ) → a <ℤ b → b ≡ c → c ≤ℤ d → a ≡ e → d ≡ f → e <ℤ f
    joined a b c d e f h i j k l = omega (arith, ints)

    from_false : (s t : ℤ) → int_lt s t ≡ false → t ≤ℤ s
    from_false s t h = grind (arith, ints)

    through : (xn xd yn yd zn zd : ℤ) → pos 0 <ℤ xd → pos 0 <ℤ yd → pos 0 <ℤ zd → int_lt (xn *ℤ yd) (yn *ℤ xd) ≡ true
        → int_lt (zn *ℤ yd) (yn *ℤ zd) ≡ false → int_lt (xn *ℤ zd) (zn *ℤ xd) ≡ true
    through xn xd yn yd zn zd px py pz h k =
        less_tested _ _ (cancel_lt yd (xn *ℤ zd) (zn *ℤ xd) py
        (joined (zd *ℤ (xn *ℤ yd)) (zd *ℤ (yn *ℤ xd)) (xd *ℤ (yn *ℤ zd)) (xd *ℤ (zn *ℤ yd)) (yd *ℤ (xn *ℤ zd))
        (yd *ℤ (zn *ℤ xd))
        (strictly_stays zd _ _ pz (tested_less _ _ h)) (outer_exchanged zd yn xd)
        (order_stays xd _ _ (not_negative xd px) (from_false _ _ k)) (outer_exchanged zd xn yd)
        (outer_exchanged xd zn yd)))

-- ---- lowest terms

-- the divisor of the parts is positive
divisor_up : (t : Fraction) → IsHit t → pos 0 <ℤ pos (divisor_of t)
divisor_up t h = let some = divisor_is_positive t (to_one t.den h.over.den) in omega (arith, ints, some)

-- a hit in lowest terms is a hit
pub reduced_is_hit : (t : Fraction) → IsHit t → IsHit (reduced t)
reduced_is_hit t h = record {
  over = record { den = from_one (reduced t).den (reduced_is_reduced t (to_one t.den h.over.den)).positive };
  ahead =
      by_lt_z (reduced t).num (pos 0)
      (λ m. absurd (below (pos (divisor_of t)) (reduced t).num t.num (divisor_up t h) m (numerator_is t) h.ahead))
      (λ m. m);
}
  where
    apart : (s t : ℤ) → s <ℤ t → t ≡ pos 0 → pos 0 ≤ℤ s → ⊥
    apart s t h k l = omega (arith, ints)

    at_zero : (g : ℤ) → g *ℤ pos 0 ≡ pos 0
    at_zero g = omega (arith, ints)

    below : (g r n : ℤ) → pos 0 <ℤ g → r <ℤ pos 0 → r *ℤ g ≡ n → pos 0 ≤ℤ n → ⊥
    below g r n gu ru e nu =
        apart (g *ℤ r) (g *ℤ pos 0) (strictly_stays g r (pos 0) gu ru) (at_zero g)
        (subst (λ z. pos 0 ≤ℤ z) (sym e ∙ product_swapped r g) nu)

-- a spot that is in a box is so in lowest terms
module _ (g : ℤ) (up : pos 0 <ℤ g) (z d rn rd tn td : ℤ) (num : rn *ℤ g ≡ tn) (den : rd *ℤ g ≡ td) where
  -- a coordinate in lowest terms, times the divisor
  scaled : g *ℤ (z *ℤ rd +ℤ rn *ℤ d) ≡ z *ℤ td +ℤ tn *ℤ d
  scaled =
      opened g (z *ℤ rd) (rn *ℤ d)
      ∙ ap (λ x. x +ℤ g *ℤ (rn *ℤ d)) (product_swapped g (z *ℤ rd) ∙ product_grouped z rd g ∙ ap (λ x. z *ℤ x) den)
      ∙ ap (λ x. z *ℤ td +ℤ x) (sym (product_grouped g rn d) ∙ ap (λ x. x *ℤ d) (product_swapped g rn ∙ num))
    where
      opened : (g a b : ℤ) → g *ℤ (a +ℤ b) ≡ g *ℤ a +ℤ g *ℤ b
      opened g a b = Rattle.int_laws.proofs.Ring.times_sum g a b

  -- and a bound
  scaled_bound : (m : ℤ) → g *ℤ (m *ℤ rd) ≡ m *ℤ td
  scaled_bound m = product_swapped g (m *ℤ rd) ∙ product_grouped m rd g ∙ ap (λ x. m *ℤ x) den

  -- what isn't below the bound isn't in lowest terms
  low_stays : (m : ℤ) → (m *ℤ td) ≤ℤ (z *ℤ td +ℤ tn *ℤ d) → (m *ℤ rd) ≤ℤ (z *ℤ rd +ℤ rn *ℤ d)
  low_stays m h = cancel_le g (m *ℤ rd) (z *ℤ rd +ℤ rn *ℤ d) up (moved (scaled_bound m) scaled h)
    where
      moved : {a b c e : ℤ} → a ≡ b → c ≡ e → b ≤ℤ e → a ≤ℤ c
      moved p q h = omega (arith, ints)

  -- nor what is not above it
  high_stays : (m : ℤ) → (z *ℤ td +ℤ tn *ℤ d) ≤ℤ (m *ℤ td) → (z *ℤ rd +ℤ rn *ℤ d) ≤ℤ (m *ℤ rd)
  high_stays m h = cancel_le g (z *ℤ rd +ℤ rn *ℤ d) (m *ℤ rd) up (moved scaled (scaled_bound m) h)
    where
      moved : {a b c e : ℤ} → a ≡ b → c ≡ e → b ≤ℤ e → a ≤ℤ c
      moved p q h = omega (arith, ints)

-- a spot in a box is so in lowest terms
pub reduced_in : (p d : Point) (t : Fraction) (box : PlanBox) → IsHit t → SpotIn (spot_at p d t) box
    → SpotIn (spot_at p d (reduced t)) box
reduced_in p d t box h s =
    let g = pos (divisor_of t) in
    let up = divisor_up t h in
    let r = reduced t in
    record {
      left = low_stays g up p.x d.x r.num r.den t.num t.den (numerator_is t) (denominator_is t) box.low.x s.left;
      right = high_stays g up p.x d.x r.num r.den t.num t.den (numerator_is t) (denominator_is t) box.high.x s.right;
      below = low_stays g up p.y d.y r.num r.den t.num t.den (numerator_is t) (denominator_is t) box.low.y s.below;
      above = high_stays g up p.y d.y r.num r.den t.num t.den (numerator_is t) (denominator_is t) box.high.y s.above;
    }

-- a line that is stopped in the box meets it
pub touch_meets : (i j : Point) (from : Spot) (box : PlanBox) (t : Fraction) → IsHit t → Touch i j box t
    → spots_meet_box i j from (spot_at j (vector i j) (reduced t)) box ≡ true
touch_meets i j from box t h k =
    ending_meets i j from (spot_at j (vector i j) (reduced t)) box (reduced_in j (vector i j) t box h k.place) k.cut

-- ---- how far a line reaches

-- a direction between two points that differ
pub leads : (p q : Point) → same_point p q ≡ false → pos 0 <ℤ dot_of (vector p q) (vector p q)
leads p q h = dot_itself (vector p q) (record { somewhere = moved p.x p.y q.x q.y h })
  where
    moved : (px py qx qy : ℤ) → same_point (point px py) (point qx qy) ≡ false
        → same_point (vector (point px py) (point qx qy)) (point (pos 0) (pos 0)) ≡ false
    moved px py qx qy h = grind (arith, ints)

-- two points are one, whichever comes first
pub same_back : (p q : Point) → same_point q p ≡ same_point p q
same_back p q = turned p.x p.y q.x q.y
  where
    turned : (px py qx qy : ℤ) → same_point (point qx qy) (point px py) ≡ same_point (point px py) (point qx qy)
    turned px py qx qy = grind (arith, ints)

-- the stop, or 0 where there is none
abbrev pub reach : Option Fraction → Fraction
reach None = whole (pos 0)
reach (Some t) = t

-- how far a line reaches is a hit
pub reach_is_hit : (scene : Scene) (p d : Point) → pos 0 <ℤ dot_of d d → IsHit (reach (stop_of scene p d))
unfolding stop_of
reach_is_hit scene p d dd =
    by (min_by is_before (hits_of scene p d)) (least_has IsHit is_before (hits_of scene p d) (all_hits scene p d dd))
  where
    by : (o : Option Fraction) → IfSome o IsHit → IsHit (reach (option_map reduced o))
    by None h = record { over = record { den = omega (arith, ints) }; ahead = omega (arith, ints) }
    by (Some t) h = reduced_is_hit t h

-- where the line from q through p ends beyond p
abbrev pub spot_beyond : Scene → Point → Point → Spot
spot_beyond scene q p = spot_at p (vector q p) (reach (stop_of scene p (vector q p)))

-- the extent of the line through p and q meets the box
abbrev pub line_meets : Scene → PlanBox → Point → Point → Bool
line_meets scene box p q = spots_meet_box p q (spot_beyond scene q p) (spot_beyond scene p q) box

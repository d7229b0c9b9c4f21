-- Where the ends of a line lie, and how large their parts are.
use Rattle.std.proofs.Common.{◌≡◌, sym, subst, arith, ℕ, ◌^◌, ◌*◌, ℤ, pos, neg_ℤ, ◌+ℤ◌, ◌-ℤ◌, ◌*ℤ◌, ◌≤ℤ◌, ◌<ℤ◌, ◌⊎◌, lit≤, refl, ◌∙◌, false}
use Rattle.std.specs.Prelude.{Option, Some, None, unsigned_abs}
use Rattle.std.proofs.lemmas.Int.{ints}
use Rattle.std.proofs.Math.Nat.{div-le_self}
use Rattle.plane_spec.specs.declared.Point.{Point}
use Rattle.plane_spec.specs.Vectors.{InRange, IsDirection, IsWithin, same_point, vector}
use Rattle.plane_spec.specs.Fractions.{Fraction, RPoint, reduced, divided, shifted, along, whole}
use Rattle.sight_spec.specs.Scene.{Scene}
use Rattle.sight_spec.specs.Axial.{AxialLine, end_by}
use Rattle.sight_spec.specs.Dirty.{corner_point}
use Rattle.sight_spec.specs.Stops.{stop_of}
use Rattle.exact_geom.specs.Parts.{HasPartsWithin}
use Rattle.exact_geom.proofs.Bounds.{product_within, size_within, within_size}
use Rattle.exact_geom.proofs.Lowest.{reduced_is_reduced, size_of_divided, divisor_of, within_more}
use Rattle.sight_core.specs.Scenes.{IsOfSoundPlan}
use Rattle.sight_core.proofs.StopBounds.{stop_is_small}
use Rattle.extent_laws.proofs.Hits.{IsHit}
use Rattle.extent_laws.proofs.Reaches.{leads, reach, reach_is_hit, same_back}
use Rattle.meet_laws.specs.Stretches.{IsAt, gap}
use Rattle.meet_laws.proofs.Along.{before_is_at, beyond_is_at, first_is_at, second_is_at}
use Rattle.meet_laws.proofs.Parameters.{not_ahead, one_ahead, gap_up}
use Rattle.meet_laws.proofs.Signs.{IsNonzero}
use Rattle.line_graph.specs.Bounds.{HasEndParts, AreEndParts, HasComparableEnds}
use Rattle.line_graph.specs.Lines.{IsThroughCorners}

-- the point of a corner's number
abbrev pub first_of : Scene → AxialLine → Point
first_of scene l = corner_point scene l.first

abbrev pub second_of : Scene → AxialLine → Point
second_of scene l = corner_point scene l.second

-- ---- stops

stop_hit : (scene : Scene) (p q : Point) → same_point p q ≡ false → IsHit (reach (stop_of scene q (vector p q)))
stop_hit scene p q differ = reach_is_hit scene q (vector p q) (leads p q differ)

up_of : (z : ℤ) → pos 0 <ℤ z → pos 1 ≤ℤ z
up_of z h = omega (arith, ints)

-- ---- where they are

-- a parameter of the first end, which isn't ahead of the first corner
pub record IsBack (r : RPoint) (p d : Point) : Type 0 where
  pub num : ℤ
  pub den : ℤ
  pub at : IsAt r p d num den
  pub low : num ≤ℤ pos 0

-- a parameter of the second end, which is at the second corner or ahead of it
pub record IsOn (r : RPoint) (p d : Point) : Type 0 where
  pub num : ℤ
  pub den : ℤ
  pub at : IsAt r p d num den
  pub high : den ≤ℤ num

back_by : (p q : Point) (t : Option Fraction) → IsHit (reach t) → IsBack (end_by p (vector q p) t) p (vector p q)
back_by p q None h =
    record { num = pos 0; den = pos 1; at = first_is_at p (vector p q); low = omega (arith, ints) }
back_by p q (Some t) h = record {
  num = neg_ℤ t.num;
  den = t.den;
  at = before_is_at p q t (up_of t.den h.over.den);
  low = let ahead = h.ahead in omega (arith, ints);
}

on_by : (p q : Point) (t : Option Fraction) → IsHit (reach t) → IsOn (end_by q (vector p q) t) p (vector p q)
on_by p q None h = record { num = pos 1; den = pos 1; at = second_is_at p q; high = omega (arith, ints) }
on_by p q (Some t) h = record {
  num = t.num +ℤ t.den;
  den = t.den;
  at = beyond_is_at p q t (up_of t.den h.over.den);
  high = let ahead = h.ahead in omega (arith, ints);
}

pub back_of : (scene : Scene) (l : AxialLine) → IsThroughCorners scene l
    → IsBack l.from (first_of scene l) (vector (first_of scene l) (second_of scene l))
back_of scene l h =
    let p = first_of scene l in
    let q = second_of scene l in
    subst (λ r. IsBack r p (vector p q)) (sym h.from)
    (back_by p q (stop_of scene p (vector q p)) (stop_hit scene q p (same_back p q ∙ h.differ)))

pub on_of : (scene : Scene) (l : AxialLine) → IsThroughCorners scene l
    → IsOn l.to (first_of scene l) (vector (first_of scene l) (second_of scene l))
on_of scene l h =
    let p = first_of scene l in
    let q = second_of scene l in
    subst (λ r. IsOn r p (vector p q)) (sym h.to)
    (on_by p q (stop_of scene q (vector p q)) (stop_hit scene p q h.differ))

-- parameters of both ends, of any form, are in order
pub in_order : (scene : Scene) (l : AxialLine) (n m k i : ℤ) (p d : Point) → IsBack l.from p d → IsOn l.to p d
    → IsNonzero d.x ⊎ IsNonzero d.y → IsAt l.from p d n m → IsAt l.to p d k i → pos 1 ≤ℤ gap n m k i
in_order scene l n m k i p d back on some from to =
    gap_up n m k i from.x.over to.x.over
    (not_ahead l.from p d n m back.num back.den from back.at some back.low)
    (one_ahead l.to p d k i on.num on.den to on.at some on.high)

-- ---- how large they are

part_no_larger : (most : ℕ) (z : ℤ) (g : ℕ) → IsWithin (pos most) z → IsWithin (pos most) (divided z g)
part_no_larger most z g h =
    let small = size_within most z h in
    let less = div-le_self (unsigned_abs z) g in
    let size = size_of_divided z g in
    within_size most (divided z g) (omega arith)

sum_small : (a b : ℤ) → IsWithin (pos (100000 * 10 ^ 12)) a → IsWithin (pos (10 ^ 12 * 200000)) b
    → IsWithin (pos (300000 * 10 ^ 12)) (a +ℤ b)
sum_small a b h k = record { low = omega (arith, ints); high = omega (arith, ints) }

shifted_small : (z d : ℤ) (t : Fraction) → IsWithin (pos 100000) z → IsWithin (pos 200000) d
    → HasPartsWithin (pos (10 ^ 12)) t → pos 1 ≤ℤ t.den → HasEndParts (shifted z d t)
unfolding reduced
shifted_small z d t z_in d_in t_in up =
    let f : Fraction = record { num = z *ℤ t.den +ℤ t.num *ℤ d; den = t.den } in
    record {
      num = part_no_larger (300000 * 10 ^ 12) f.num (divisor_of f)
          (sum_small (z *ℤ t.den) (t.num *ℤ d) (product_within 100000 (10 ^ 12) z t.den z_in t_in.den)
          (product_within (10 ^ 12) 200000 t.num d t_in.num d_in));
      den = part_no_larger (10 ^ 12) t.den (divisor_of f) t_in.den;
      positive = (reduced_is_reduced f up).positive;
    }

whole_small : (z : ℤ) → IsWithin (pos 100000) z → HasEndParts (whole z)
whole_small z h = record {
  num = within_more 100000 (300000 * 10 ^ 12) z (lit≤ tt) h;
  den = within_more 1 (10 ^ 12) (pos 1) (lit≤ tt) (record { low = omega (arith, ints); high = omega (arith, ints) });
  positive = omega (arith, ints);
}

difference_within : (a b : ℤ) → IsWithin (pos 100000) a → IsWithin (pos 100000) b → IsWithin (pos 200000) (b -ℤ a)
difference_within a b h k = record { low = omega (arith, ints); high = omega (arith, ints) }

vector_within : (p q : Point) → InRange p → InRange q → IsDirection (vector p q)
vector_within p q p_in q_in =
    let x = difference_within p.x q.x p_in.x q_in.x in
    let y = difference_within p.y q.y p_in.y q_in.y in
    record { x = within_more 200000 400000 _ (lit≤ tt) x; y = within_more 200000 400000 _ (lit≤ tt) y }

end_small : (scene : Scene) (p q : Point) (o : Option Fraction) → IsOfSoundPlan scene → InRange p → InRange q
    → IsHit (reach o) → stop_of scene q (vector p q) ≡ o → AreEndParts (end_by q (vector p q) o)
unfolding along
end_small scene p q None sound p_in q_in h e = record { x = whole_small q.x q_in.x; y = whole_small q.y q_in.y }
end_small scene p q (Some t) sound p_in q_in h e =
    let small = stop_is_small scene q (vector p q) t sound q_in (vector_within p q p_in q_in) e in
    let up = up_of t.den h.over.den in
    record {
      x = shifted_small q.x (q.x -ℤ p.x) t q_in.x (difference_within p.x q.x p_in.x q_in.x) small up;
      y = shifted_small q.y (q.y -ℤ p.y) t q_in.y (difference_within p.y q.y p_in.y q_in.y) small up;
    }

pub from_small : (scene : Scene) (l : AxialLine) → IsOfSoundPlan scene → IsThroughCorners scene l → AreEndParts l.from
from_small scene l sound h =
    let p = first_of scene l in
    let q = second_of scene l in
    subst AreEndParts (sym h.from)
    (end_small scene q p (stop_of scene p (vector q p)) sound h.second.in_range h.first.in_range
    (stop_hit scene q p (same_back p q ∙ h.differ)) refl)

pub to_small : (scene : Scene) (l : AxialLine) → IsOfSoundPlan scene → IsThroughCorners scene l → AreEndParts l.to
to_small scene l sound h =
    let p = first_of scene l in
    let q = second_of scene l in
    subst AreEndParts (sym h.to)
    (end_small scene p q (stop_of scene q (vector p q)) sound h.first.in_range h.second.in_range
    (stop_hit scene p q h.differ) refl)

-- ---- small enough to be compared

parts_small : (f : Fraction) → HasEndParts f → HasPartsWithin (pos (10 ^ 18)) f
parts_small f h = record {
  num = within_more (300000 * 10 ^ 12) (10 ^ 18) f.num (lit≤ tt) h.num;
  den = within_more (10 ^ 12) (10 ^ 18) f.den (lit≤ tt) h.den;
}

pub ends_comparable : (l : AxialLine) → AreEndParts l.from → AreEndParts l.to → HasComparableEnds l
ends_comparable l from to = record {
  from = record { x = parts_small l.from.x from.x; y = parts_small l.from.y from.y };
  to = record { x = parts_small l.to.x to.x; y = parts_small l.to.y to.y };
}

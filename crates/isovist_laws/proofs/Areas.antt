-- Floors and ceilings of doubled areas: they are the same in lowest terms, and at most 8 * 10^10.
use Rattle.std.proofs.Common.{◌≡◌, ◌∙◌, ◌⊎◌, inl, inr, ℤ, pos, ◌-ℤ◌, ◌*ℤ◌, ◌<ℤ◌, ◌≤ℤ◌, arith, sym, ap, subst}
use Rattle.std.specs.Prelude.{int_le}
use Rattle.std.proofs.lemmas.Int.{ints}
use Rattle.int_laws.proofs.Ring.{product_grouped, product_swapped, minus_times, times_minus, zero_times}
use Rattle.int_laws.proofs.Signs.{positive_product, not_negative_product, not_negative_factor}
use Rattle.int_laws.proofs.Tests.{tested_at_most, at_most_tested}
use Rattle.int_laws.proofs.Multiples.{at_most_scaled}
use Rattle.plane_spec.specs.declared.Point.{Point}
use Rattle.plane_spec.specs.declared.Segment.{Segment}
use Rattle.plane_spec.specs.Vectors.{vector, cross_of, InRange}
use Rattle.plane_spec.specs.Segments.{IsSegmentInRange}
use Rattle.plane_spec.specs.Fractions.{Fraction, reduced, floor_of, ceil_of, is_at_least, is_at_most}
use Rattle.sight_spec.specs.Scene.{Scene, blockers_of_scene}
use Rattle.sight_spec.specs.Isovist.{Run, blocker_at, meeting_with}
use Rattle.exact_geom.proofs.Lowest.{divisor_of, divisor_is_positive, reduced_is_reduced}
use Rattle.exact_geom.proofs.Values.{numerator_is, denominator_is}
use Rattle.exact_geom.proofs.Rounding.{floor_not_above, floor_greatest, ceil_not_below, ceil_least}
use Rattle.exact_geom.proofs.Bounds.{orient_within}
use Rattle.isovist_laws.specs.Spans.{IsSpanned, HasRoundingWithin}
use Rattle.isovist_laws.proofs.Meetings.{Meets, meets, turned}

-- ---- lowest terms

module _ (f : Fraction) (up : pos 1 ≤ℤ f.den) where
  abbrev divisor : ℤ
  divisor = pos (divisor_of f)

  divisor_up : pos 0 <ℤ divisor
  divisor_up = let h = divisor_is_positive f up in omega (arith, ints, h)

  reduced_up : pos 1 ≤ℤ (reduced f).den
  reduced_up = (reduced_is_reduced f up).positive

  times_den : (z : ℤ) → z *ℤ f.den ≡ divisor *ℤ (z *ℤ (reduced f).den)
  times_den z =
      ap (λ t. z *ℤ t) (sym (denominator_is f)) ∙ sym (product_grouped z (reduced f).den divisor)
      ∙ product_swapped (z *ℤ (reduced f).den) divisor

  num_is : f.num ≡ divisor *ℤ (reduced f).num
  num_is = sym (numerator_is f) ∙ product_swapped (reduced f).num divisor

  -- a whole number compares with a fraction as with its lowest terms
  at_least_reduced : (z : ℤ) → is_at_least f z ≡ is_at_least (reduced f) z
  at_least_reduced z =
      ap (λ t. int_le t f.num) (times_den z) ∙ ap (λ t. int_le (divisor *ℤ (z *ℤ (reduced f).den)) t) num_is
      ∙ at_most_scaled divisor (z *ℤ (reduced f).den) (reduced f).num divisor_up

  at_most_reduced : (z : ℤ) → is_at_most f z ≡ is_at_most (reduced f) z
  at_most_reduced z =
      ap (λ t. int_le f.num t) (times_den z) ∙ ap (λ t. int_le t (divisor *ℤ (z *ℤ (reduced f).den))) num_is
      ∙ at_most_scaled divisor (reduced f).num (z *ℤ (reduced f).den) divisor_up

  -- so it has the floor and the ceiling of its lowest terms
  pub floor_reduced : floor_of (reduced f) ≡ floor_of f
  floor_reduced =
      let one = floor_greatest (reduced f) reduced_up (floor_of f)
      (sym (at_least_reduced (floor_of f)) ∙ floor_not_above f up) in
      let other = floor_greatest f up (floor_of (reduced f))
      (at_least_reduced (floor_of (reduced f)) ∙ floor_not_above (reduced f) reduced_up) in
      same_number (floor_of (reduced f)) (floor_of f) other one
    where
      same_number : (x y : ℤ) → x ≤ℤ y → y ≤ℤ x → x ≡ y
      same_number x y h k = omega (arith, ints, h, k)

  pub ceil_reduced : ceil_of (reduced f) ≡ ceil_of f
  ceil_reduced =
      let one = ceil_least (reduced f) reduced_up (ceil_of f)
      (sym (at_most_reduced (ceil_of f)) ∙ ceil_not_below f up) in
      let other = ceil_least f up (ceil_of (reduced f))
      (at_most_reduced (ceil_of (reduced f)) ∙ ceil_not_below (reduced f) reduced_up) in
      same_number (ceil_of (reduced f)) (ceil_of f) one other
    where
      same_number : (x y : ℤ) → x ≤ℤ y → y ≤ℤ x → x ≡ y
      same_number x y h k = omega (arith, ints, h, k)

  -- ---- bounds

  -- floor and ceiling of what is from 0 to a whole number
  pub between : (most : ℤ) → pos 0 ≤ℤ f.num → f.num ≤ℤ (most *ℤ f.den) → HasRoundingWithin most f
  between most low high =
      let floor_low = floor_greatest f up (pos 0)
      (at_most_tested (pos 0 *ℤ f.den) f.num (subst (λ t. t ≤ℤ f.num) (sym (zero_times f.den)) low)) in
      let ceil_high = ceil_least f up most (at_most_tested f.num (most *ℤ f.den) high) in
      let under = tested_at_most (floor_of f *ℤ f.den) f.num (floor_not_above f up) in
      let over = tested_at_most f.num (ceil_of f *ℤ f.den) (ceil_not_below f up) in
      let rest = minus_times most (floor_of f) f.den in
      let floor_high = not_negative_factor (most -ℤ floor_of f) f.den (omega (arith, ints, rest, under, high))
      (omega (arith, ints, up)) in
      let ceil_low = not_negative_factor (ceil_of f) f.den (omega (arith, ints, over, low)) (omega (arith, ints, up)) in
      record {
        floor_low = floor_low;
        floor_high = omega (arith, ints, floor_high);
        ceil_low = ceil_low;
        ceil_high = ceil_high;
      }

-- ---- triangles

-- the size of what is met is at most that of a triangle in range
size_within : (p e f : Point) (w : Segment) (m : Meets p e f w) → InRange p → IsSegmentInRange w
    → m.size ≤ℤ pos 80000000000
size_within p e f w m p_in w_in = by m.size_is
  where
    by : (m.size ≡ cross_of (vector p w.a) (vector p w.b)) ⊎ (m.size ≡ cross_of (vector p w.b) (vector p w.a))
        → m.size ≤ℤ pos 80000000000
    by (inl e) = let h = orient_within p w.a w.b p_in w_in.a w_in.b in omega (arith, ints, e, h.high)
    by (inr e) = let h = orient_within p w.b w.a p_in w_in.b w_in.a in omega (arith, ints, e, h.high)

-- the doubled area between the two hits, not reduced
abbrev pub area_of : (e f : Point) → Fraction → Fraction → Fraction
area_of e f s t = record { num = s.num *ℤ t.num *ℤ cross_of e f; den = s.den *ℤ t.den }

module _ (p e f : Point) (w : Segment) (m : Meets p e f w) (turned : pos 0 <ℤ cross_of e f) where
  abbrev area : Fraction
  area = record { num = m.size *ℤ m.size *ℤ cross_of e f; den = m.first_den *ℤ m.second_den }

  area_up : pos 1 ≤ℤ area.den
  area_up = let h = positive_product m.first_den m.second_den m.first_positive m.second_positive in omega (arith, ints, h)

  area_bounded : InRange p → IsSegmentInRange w → HasRoundingWithin (pos 80000000000) area
  area_bounded p_in w_in =
      let size_low : pos 0 ≤ℤ m.size = omega (arith, ints, m.positive) in
      let square = not_negative_product m.size m.size size_low size_low in
      let low = not_negative_product (m.size *ℤ m.size) (cross_of e f) square (omega (arith, ints, turned)) in
      let grouped = product_grouped m.size m.size (cross_of e f) in
      let most = size_within p e f w m p_in w_in in
      let one = not_negative_product m.size (m.first_den *ℤ m.second_den -ℤ m.size *ℤ cross_of e f) size_low
      (let h = m.bounded in omega (arith, ints, h)) in
      let one_is = times_minus m.size (m.first_den *ℤ m.second_den) (m.size *ℤ cross_of e f) in
      let two = not_negative_product (pos 80000000000 -ℤ m.size) (m.first_den *ℤ m.second_den)
      (omega (arith, ints, most)) (let h = area_up in omega (arith, ints, h)) in
      let two_is = minus_times (pos 80000000000) m.size (m.first_den *ℤ m.second_den) in
      between area area_up (pos 80000000000) low
      (high (m.size *ℤ m.size *ℤ cross_of e f) (m.size *ℤ (m.size *ℤ cross_of e f))
      (m.size *ℤ (m.first_den *ℤ m.second_den)) (pos 80000000000 *ℤ (m.first_den *ℤ m.second_den)) grouped
      (subst (λ t. pos 0 ≤ℤ t) one_is one) (subst (λ t. pos 0 ≤ℤ t) two_is two))
    where
      high : (u v x y : ℤ) → u ≡ v → pos 0 ≤ℤ (x -ℤ v) → pos 0 ≤ℤ (y -ℤ x) → u ≤ℤ y
      high u v x y e h k = omega (arith, ints, e, h, k)

-- the doubled area between the two hits in a run's directions
pub run_area_bounded : (scene : Scene) (p : Point) (r : Run) → IsSpanned scene p r → InRange p
    → IsSegmentInRange (blocker_at (blockers_of_scene scene) r.wall)
    → HasRoundingWithin (pos 80000000000)
    (area_of r.from r.to (meeting_with scene p r.from r.wall) (meeting_with scene p r.to r.wall))
run_area_bounded scene p r s p_in w_in =
    let w = blocker_at (blockers_of_scene scene) r.wall in
    let m = meets p r.from r.to w s.spans in
    let bounds = area_bounded p r.from r.to w m (turned p r.from r.to w s.spans).less_than_half p_in w_in in
    subst (λ h. HasRoundingWithin (pos 80000000000) (area_of r.from r.to h (meeting_with scene p r.to r.wall)))
    (sym m.first_is)
    (subst
    (λ h. HasRoundingWithin (pos 80000000000) (area_of r.from r.to (record { num = m.size; den = m.first_den }) h))
    (sym m.second_is) bounds)

-- it stands over a positive denominator
pub run_area_up : (scene : Scene) (p : Point) (r : Run) → IsSpanned scene p r
    → pos 1 ≤ℤ ((meeting_with scene p r.from r.wall).den *ℤ (meeting_with scene p r.to r.wall).den)
run_area_up scene p r s =
    let m = meets p r.from r.to (blocker_at (blockers_of_scene scene) r.wall) s.spans in
    let h = area_up p r.from r.to (blocker_at (blockers_of_scene scene) r.wall) m (turned p r.from r.to (blocker_at (blockers_of_scene scene) r.wall) s.spans).less_than_half in
    subst (λ (t : Fraction). pos 1 ≤ℤ (t.den *ℤ (meeting_with scene p r.to r.wall).den)) (sym m.first_is)
    (subst (λ (t : Fraction). pos 1 ≤ℤ (m.first_den *ℤ t.den)) (sym m.second_is) h)

-- and so do both hits
pub dens_up : (scene : Scene) (p : Point) (r : Run) → IsSpanned scene p r
    → (pos 1 ≤ℤ (meeting_with scene p r.from r.wall).den) × (pos 1 ≤ℤ (meeting_with scene p r.to r.wall).den)
dens_up scene p r s =
    let m = meets p r.from r.to (blocker_at (blockers_of_scene scene) r.wall) s.spans in (
      subst (λ (t : Fraction). pos 1 ≤ℤ t.den) (sym m.first_is) (let h = m.first_positive in omega (arith, ints, h)),
      subst (λ (t : Fraction). pos 1 ≤ℤ t.den) (sym m.second_is) (let h = m.second_positive in omega (arith, ints, h)),
    )

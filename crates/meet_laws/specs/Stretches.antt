-- Segments between two points of a line through a whole point in a whole direction, and when two of them meet.
use Rattle.std.specs.Prelude.{◌≡◌, ℤ, pos, ◌+ℤ◌, ◌-ℤ◌, ◌*ℤ◌, ◌≤ℤ◌, Bool, true, not, ◌&&◌, ◌||◌, int_lt, int_le}
use Rattle.plane_spec.specs.declared.Point.{Point}
use Rattle.plane_spec.specs.Vectors.{vector, cross_of, IsDirected}
use Rattle.plane_spec.specs.Fractions.{Fraction, RPoint, is_before}
use Rattle.plane_spec.specs.RPoints.{is_between_fractions}

-- ---- points of a line

-- the value of f is num / den
pub record HasValue (f : Fraction) (num den : ℤ) : Type 0 where
  pub part : pos 1 ≤ℤ f.den
  pub over : pos 1 ≤ℤ den
  pub equal : f.num *ℤ den ≡ num *ℤ f.den

-- the point is p + (num / den) d
pub record IsAt (r : RPoint) (p d : Point) (num den : ℤ) : Type 0 where
  pub x : HasValue r.x (p.x *ℤ den +ℤ num *ℤ d.x) den
  pub y : HasValue r.y (p.y *ℤ den +ℤ num *ℤ d.y) den

-- how much greater n2 / m2 is than n1 / m1, times both denominators
abbrev pub gap : ℤ → ℤ → ℤ → ℤ → ℤ
gap n1 m1 n2 m2 = n2 *ℤ m1 -ℤ n1 *ℤ m2

-- the points p + t d of a line for the parameters t between two fractions
pub record Stretch : Type 0 where
  pub p : Point
  pub d : Point
  pub from : Fraction
  pub to : Fraction

-- the stretch leads from a on to b
pub record IsStretchOf (s : Stretch) (a b : RPoint) : Type 0 where
  pub from : IsAt a s.p s.d s.from.num s.from.den
  pub to : IsAt b s.p s.d s.to.num s.to.den
  pub order : pos 1 ≤ℤ gap s.from.num s.from.den s.to.num s.to.den
  pub directed : IsDirected s.d

-- ---- tests

-- 0 lies between two numbers, ends counted
abbrev pub is_zero_between : ℤ → ℤ → Bool
is_zero_between s t =
    (not (int_lt s (pos 0)) && not (int_lt (pos 0) t)) || (not (int_lt t (pos 0)) && not (int_lt (pos 0) s))

-- t / k lies between n1 / m1 and n2 / m2, ends counted, for k above 0
unfoldable pub is_between_parameters : ℤ → ℤ → ℤ → ℤ → ℤ → ℤ → Bool
is_between_parameters t k n1 m1 n2 m2 = int_le (n1 *ℤ k) (m1 *ℤ t) && int_le (m2 *ℤ t) (n2 *ℤ k)

-- the same for k below 0
unfoldable pub is_between_parameters_turned : ℤ → ℤ → ℤ → ℤ → ℤ → ℤ → Bool
is_between_parameters_turned t k n1 m1 n2 m2 = int_le (m1 *ℤ t) (n1 *ℤ k) && int_le (n2 *ℤ k) (m2 *ℤ t)

-- the extents of a segment hold a point
abbrev pub is_in_extents : RPoint → RPoint → RPoint → Bool
is_in_extents r a b = is_between_fractions r.x a.x b.x && is_between_fractions r.y a.y b.y

-- ---- two stretches

-- where the lines cross, as parameters of the two with one denominator: the cross products of what leads from the one
-- point to the other with the other line's direction and with the own
abbrev pub crossing_on_first : Stretch → Stretch → ℤ
crossing_on_first s r = cross_of (vector s.p r.p) r.d

abbrev pub crossing_on_second : Stretch → Stretch → ℤ
crossing_on_second s r = cross_of (vector s.p r.p) s.d

-- the crossing lies on both stretches, where the second direction is left of the first
unfoldable pub do_reach_crossing : Stretch → Stretch → Bool
do_reach_crossing s r =
    is_between_parameters (crossing_on_first s r) (cross_of s.d r.d) s.from.num s.from.den s.to.num s.to.den
    && is_between_parameters (crossing_on_second s r) (cross_of s.d r.d) r.from.num r.from.den r.to.num r.to.den

-- the same where it is right of it
unfoldable pub do_reach_crossing_turned : Stretch → Stretch → Bool
do_reach_crossing_turned s r =
    is_between_parameters_turned (crossing_on_first s r) (cross_of s.d r.d) s.from.num s.from.den s.to.num s.to.den
    && is_between_parameters_turned (crossing_on_second s r) (cross_of s.d r.d) r.from.num r.from.den r.to.num r.to.den

-- an end of one segment lies in the extents of the other
abbrev pub do_extents_meet : RPoint → RPoint → RPoint → RPoint → Bool
do_extents_meet a b c f = (is_in_extents a c f || is_in_extents b c f) || (is_in_extents c a b || is_in_extents f a b)

-- both of the first two fractions are less than each of the other two
pub record AreAllBefore (a b c f : Fraction) : Type 0 where
  pub first_third : is_before a c ≡ true
  pub first_fourth : is_before a f ≡ true
  pub second_third : is_before b c ≡ true
  pub second_fourth : is_before b f ≡ true

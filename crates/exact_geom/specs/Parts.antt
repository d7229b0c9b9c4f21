-- The parts of fractions: how large they are, and when they are the same.
use Rattle.std.specs.Prelude.{ℤ, Bool}
use Rattle.std.specs.Ordering.{int_eq, eq_of_both, on}
use Rattle.plane_spec.specs.Vectors.{IsWithin}
use Rattle.plane_spec.specs.Fractions.{Fraction, RPoint}
use Rattle.exact_geom.specs.declared.limits.TheConstants.{MAX_STOP_PART, MAX_COORDINATE_PART}

-- numerator and denominator are from -most to most
pub record HasPartsWithin (most : ℤ) (f : Fraction) : Type 0 where
  pub num : IsWithin most f.num
  pub den : IsWithin most f.den

-- so are those of both coordinates
pub record HasCoordinatesWithin (most : ℤ) (p : RPoint) : Type 0 where
  pub x : HasPartsWithin most p.x
  pub y : HasPartsWithin most p.y

-- one numerator and one denominator
abbrev pub same_parts : Fraction → Fraction → Bool
same_parts = eq_of_both (on (λ f. f.num) int_eq) (on (λ f. f.den) int_eq)

-- parts as small as those of a t at which a ray is stopped
abbrev pub HasStopParts : Fraction → Type 0
HasStopParts f = HasPartsWithin MAX_STOP_PART f

-- parts as small as those of a coordinate of p + t d for such a t, which can be compared
abbrev pub HasCoordinateParts : Fraction → Type 0
HasCoordinateParts f = HasPartsWithin MAX_COORDINATE_PART f

-- a point with such coordinates
abbrev pub HasRPointParts : RPoint → Type 0
HasRPointParts p = HasCoordinatesWithin MAX_COORDINATE_PART p

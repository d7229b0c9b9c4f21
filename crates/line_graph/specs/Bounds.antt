-- How large the parts of the ends of axial lines are, and of the parameters at which they lie.
use Rattle.std.specs.Prelude.{pos, ◌≤ℤ◌}
use Rattle.plane_spec.specs.Vectors.{InRange, IsDirection, IsWithin}
use Rattle.plane_spec.specs.Fractions.{Fraction, RPoint}
use Rattle.exact_geom.specs.Parts.{HasRPointParts}
use Rattle.exact_geom.specs.declared.limits.TheConstants.{MAX_STOP_PART}
use Rattle.sight_spec.specs.Axial.{AxialLine}
use Rattle.meet_laws.specs.Stretches.{Stretch}
use Rattle.line_graph.specs.declared.limits.TheConstants.{MAX_END_NUMERATOR, MAX_PARAMETER_PART}

-- a coordinate of an end: it is a coordinate of a corner, or that of a point on a ray that is stopped
pub record HasEndParts (f : Fraction) : Type 0 where
  pub num : IsWithin MAX_END_NUMERATOR f.num
  pub den : IsWithin MAX_STOP_PART f.den
  pub positive : pos 1 ≤ℤ f.den

-- both coordinates of an end
pub record AreEndParts (r : RPoint) : Type 0 where
  pub x : HasEndParts r.x
  pub y : HasEndParts r.y

-- both ends of a line can be compared
pub record HasComparableEnds (l : AxialLine) : Type 0 where
  pub from : HasRPointParts l.from
  pub to : HasRPointParts l.to

-- a parameter on a line: its parts fit in 64 bits
pub record IsParameter (t : Fraction) : Type 0 where
  pub num : IsWithin MAX_PARAMETER_PART t.num
  pub den : IsWithin MAX_PARAMETER_PART t.den
  pub positive : pos 1 ≤ℤ t.den

-- a stretch of a line through a point in range
pub record IsSmallStretch (s : Stretch) : Type 0 where
  pub p : InRange s.p
  pub d : IsDirection s.d

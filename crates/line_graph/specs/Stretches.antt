-- Axial lines as stretches: where their ends lie on the line through their corners, as parameters.
use Rattle.std.specs.Prelude.{ℤ, pos, ◌-ℤ◌, ◌*ℤ◌, if◌then◌else◌}
use Rattle.std.specs.Ordering.{int_eq}
use Rattle.plane_spec.specs.declared.Point.{Point}
use Rattle.plane_spec.specs.Vectors.{vector}
use Rattle.plane_spec.specs.Fractions.{Fraction, RPoint, fraction}
use Rattle.sight_spec.specs.Scene.{Scene}
use Rattle.sight_spec.specs.Axial.{AxialLine}
use Rattle.sight_spec.specs.Dirty.{corner_point}
use Rattle.meet_laws.specs.Stretches.{Stretch}

-- the t for which z + t d is the coordinate f, not reduced
abbrev pub parameter_in : ℤ → ℤ → Fraction → Fraction
parameter_in z d f = fraction (f.num -ℤ z *ℤ f.den) (d *ℤ f.den)

-- the t for which p + t d is the point r of that line, by the first coordinate in which d leads anywhere
unfoldable pub parameter_of : Point → Point → RPoint → Fraction
parameter_of p d r = if int_eq d.x (pos 0) then parameter_in p.y d.y r.y else parameter_in p.x d.x r.x

-- the stretch of the line through p and q between the ends of an axial line
abbrev pub stretch_between : Point → Point → AxialLine → Stretch
stretch_between p q l =
    record { p = p; d = vector p q; from = parameter_of p (vector p q) l.from; to = parameter_of p (vector p q) l.to }

-- an axial line as a stretch of the line through its corners
unfoldable pub stretch_of : Scene → AxialLine → Stretch
stretch_of scene l = stretch_between (corner_point scene l.first) (corner_point scene l.second) l

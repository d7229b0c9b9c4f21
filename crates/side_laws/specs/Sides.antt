-- The sides of a polygon's edges, and how often the edges go round what is close to them.
use Rattle.std.specs.Prelude.{ℤ, pos, ◌+ℤ◌, ◌<ℤ◌, List, Contains, map}
use Rattle.plane_spec.specs.declared.Point.{Point}
use Rattle.plane_spec.specs.declared.Segment.{Segment}
use Rattle.plane_spec.specs.Vectors.{point, vector, cross_of}
use Rattle.plane_laws.specs.Enlarged.{enlarged_wall}
use Rattle.winding_laws.specs.Windings.{GoesRoundNear}

-- the middle of e, in a plane that is twice as large
abbrev pub middle_of : Segment → Point
middle_of e = point (e.a.x +ℤ e.b.x) (e.a.y +ℤ e.b.y)

-- close to the middle of each edge, on its left, the edges go round k times
abbrev pub GoesRoundOnLeft : List Segment → ℤ → Type 0
GoesRoundOnLeft edges k =
    (e : Segment) (d : Point) → Contains edges e → pos 0 <ℤ cross_of (vector e.a e.b) d
    → GoesRoundNear (map (enlarged_wall 2) edges) (middle_of e) d k

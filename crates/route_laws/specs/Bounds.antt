-- How large the numbers of cut routes are.
use Rattle.std.specs.Prelude.{pos, ◌<ℤ◌}
use Rattle.plane_spec.specs.Fractions.{Fraction, RPoint, IsReduced}
use Rattle.plane_spec.specs.Vectors.{IsDirection, IsDirected}
use Rattle.exact_geom.specs.Parts.{HasStopParts, HasRPointParts}
use Rattle.route_spec.specs.Routes.{Piece}

-- a cut lies strictly between the ends of its route, and its parts are as small as those of a stop
pub record IsCut (t : Fraction) : Type 0 where
  pub ahead : pos 0 <ℤ t.num
  pub before : t.num <ℤ t.den
  pub parts : HasStopParts t

-- an end of a piece: its coordinates are in lowest terms, and can be compared
pub record IsEnd (r : RPoint) : Type 0 where
  pub x : IsReduced r.x
  pub y : IsReduced r.y
  pub parts : HasRPointParts r

-- a piece between two such ends, in a direction that leads somewhere
pub record IsPieceInRange (r : Piece) : Type 0 where
  pub from : IsEnd r.from
  pub to : IsEnd r.to
  pub direction : IsDirection r.direction
  pub directed : IsDirected r.direction

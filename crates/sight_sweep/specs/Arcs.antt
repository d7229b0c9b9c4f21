-- Arcs by the places of their directions.
use Rattle.std.specs.Prelude.{ℕ, ◌+◌, ◌≡◌, true, false, pos}
use Rattle.plane_spec.specs.declared.Point.{Point}
use Rattle.plane_spec.specs.Vectors.{point, is_upper, turns_left, IsDirection, IsDirected}
use Rattle.turn_laws.specs.Places.{place_of}
use Rattle.view_laws.specs.declared.view.Arc.{Arc}
use Rattle.view_laws.specs.declared.view.Arc.TheVariants as arcs

-- a direction of the half turn from (1,0) on
pub record IsLater (d : Point) : Type 0 where
  pub direction : IsDirection d
  pub directed : IsDirected d
  pub upper : is_upper d ≡ true

-- both ends of a part of the half turn, the second not before the first
pub record AreLater (first last : Point) : Type 0 where
  pub first_later : IsLater first
  pub last_later : IsLater last
  pub in_order : turns_left last first ≡ false

-- an arc that can be looked in
abbrev pub IsArc : Arc → Type 0
IsArc arcs.All = true ≡ true
IsArc arcs.Later = true ≡ true
IsArc (arcs.Between first last) = AreLater first last

-- the direction in which the round begins
abbrev pub start_of : Arc → Point
start_of arcs.All = point (pos 1) (pos 0)
start_of arcs.Later = point (pos 1) (pos 0)
start_of (arcs.Between first last) = first

-- its place
abbrev pub start_place : Arc → ℕ
start_place arc = place_of (start_of arc)

-- the first place after all directions of the arc
abbrev pub end_place : Arc → ℕ
end_place arcs.All = 4398046511104
end_place arcs.Later = 2199023255552
end_place (arcs.Between first last) = place_of last + 1

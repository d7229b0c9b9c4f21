-- The triangles of a point below a column, in a room.
use Rattle.std.specs.Prelude.{◌≡◌, refl, ℕ, List, [], ◌∷◌, map, pos, Bool, true, false}
use Rattle.plane_spec.specs.Vectors.{turns_before}
use Rattle.plane_spec.specs.Segments.{is_on_segment}
use Rattle.plane_spec.specs.Polygons.{edges_to, is_counterclockwise}
use Rattle.plane_spec.specs.Cones.{is_in_cone}
use Rattle.plane_spec.specs.declared.Point.{Point}
use Rattle.plane_spec.specs.Fractions.{RPoint, whole, whole_point, common_divisor, reduced, along}
use Rattle.plan_spec.proofs.Figures.{at, room_with, middle}
use Rattle.sight_spec.specs.Scene.{oriented_walls, oriented_corners, scene_of}
use Rattle.sight_spec.specs.Stops.{blocker_hit, corner_hit, start_hit, stop_of, near_wall_of}
use Rattle.sight_spec.specs.Isovist.{Triangle, corner_directions, wall_between, runs_of, triangle_of, isovist_in}
use Rattle.isovist_laws.specs.Overlaps.{lies_inside}

abbrev seen : Point → Point → ℕ → ℕ → Triangle
seen from to area wall =
    record { from = whole_point from; to = whole_point to; doubled_area = whole (pos area); wall = wall }

-- the far wall right of the column, the column, the far wall left of it, and the other three walls. The column's
-- corners behind cut nothing: the three sectors before it are one run
abbrev triangles : List Triangle
triangles =
    seen (at 10 10) (at 9 10) 8 2 ∷ seen (at 6 4) (at 4 4) 4 4 ∷ seen (at 1 10) (at 0 10) 8 2
    ∷ seen (at 0 10) (at 0 0) 50 3 ∷ seen (at 0 0) (at 10 0) 20 0 ∷ seen (at 10 0) (at 10 10) 50 1 ∷ []

below_a_column : (isovist_in (scene_of (room_with middle)) (at 5 2)).triangles ≡ triangles
unfolding isovist_in corner_directions wall_between runs_of triangle_of turns_before near_wall_of stop_of blocker_hit
    corner_hit start_hit is_in_cone oriented_walls oriented_corners is_counterclockwise edges_to is_on_segment along
    reduced common_divisor
below_a_column = refl

abbrev insides : RPoint → List Bool
insides q = map (λ t. lies_inside (at 5 2) t q) triangles

before_the_column : insides (whole_point (at 5 3)) ≡ false ∷ true ∷ false ∷ false ∷ false ∷ false ∷ []
before_the_column = refl

abbrev none : List Bool
none = false ∷ false ∷ false ∷ false ∷ false ∷ false ∷ []

behind_the_column : insides (whole_point (at 5 9)) ≡ none
behind_the_column = refl

-- on the side that the first two share
abbrev beside : RPoint
beside = record { x = record { num = pos 11; den = pos 2 }; y = whole (pos 3) }

beside_the_column : insides beside ≡ none
beside_the_column = refl

-- straight to the right, in the last triangle, which goes on past (1,0)
to_the_right : insides (whole_point (at 6 2)) ≡ false ∷ false ∷ false ∷ false ∷ false ∷ true ∷ []
to_the_right = refl

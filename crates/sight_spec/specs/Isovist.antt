-- What is seen from a point, as triangles.
use Rattle.std.specs.Prelude.{ℕ, ◌==◌, get_or, ℤ, pos, ◌+ℤ◌, ◌*ℤ◌, Bool, false, ◌&&◌, ◌||◌, not, int_le, List, [], ◌∷◌, map, filter, Option, Some, None, if◌then◌else◌}
use Rattle.std.specs.Ordering.{int_eq}
use Rattle.std.specs.List.{zip}
use Rattle.plane_spec.specs.declared.Point.{Point}
use Rattle.plane_spec.specs.declared.Segment.{Segment}
use Rattle.plane_spec.specs.declared.Corner.{Corner}
use Rattle.plane_spec.specs.Lists.{distinct_by, in_order}
use Rattle.plane_spec.specs.Vectors.{point, vector, cross_of, same_point, turns_before}
use Rattle.plane_spec.specs.Fractions.{Fraction, RPoint, reduced, floor_of, ceil_of, along}
use Rattle.plan_spec.specs.Plan.{Plan}
use Rattle.sight_spec.specs.Scene.{Scene, scene_of, blockers_of_scene}
use Rattle.sight_spec.specs.Sight.{is_open}
use Rattle.sight_spec.specs.Stops.{wall_parameter, RayHit, ray_hit}

-- ---- the directions in which corners lie

-- two directions point the same way
abbrev pub same_way : Point → Point → Bool
same_way d e = not (turns_before d e) && not (turns_before e d)

-- the vector from p to a corner
abbrev pub vector_to_corner : Point → Corner → Point
vector_to_corner p c = vector p c.here

-- the vectors from p to the corners other than p, the first of those that point the same way, counterclockwise from
-- (1,0)
unfoldable pub corner_directions : Scene → Point → List Point
corner_directions scene p =
    in_order turns_before
    (distinct_by same_way (map (vector_to_corner p) (filter (λ c. not (same_point c.here p)) scene.corners)))

-- ---- sectors

-- each of the directions with the next, and the last with `first`
abbrev pub gaps_to : Point → List Point → List (Point × Point)
gaps_to first [] = []
gaps_to first (e ∷ []) = (e, first) ∷ []
gaps_to first (e ∷ f ∷ directions) = (e, f) ∷ gaps_to first (f ∷ directions)

-- the gaps between directions: from each to the next, and from the last to the first
abbrev pub gaps_of : List Point → List (Point × Point)
gaps_of [] = []
gaps_of (e ∷ directions) = gaps_to e (e ∷ directions)

-- the direction in which a gap is looked into, the sum of its two
abbrev pub sum_of : Point → Point → Point
sum_of e f = point (e.x +ℤ f.x) (e.y +ℤ f.y)

-- the ray goes into what is blocked at p itself
abbrev pub stops_at_once : Option Fraction → Bool
stops_at_once None = false
stops_at_once (Some t) = int_eq t.num (pos 0)

-- the wall or screen that is seen between two directions, by what the ray in the direction of their sum meets: none in
-- a gap of a half turn or more, nor from a lone direction round to itself, nor where the ray is stopped at once
abbrev pub wall_by : Point → Point → RayHit → Option ℕ
wall_by e f hit = if int_le (cross_of e f) (pos 0) || stops_at_once hit.stop then None else hit.wall

-- the wall or screen that is seen from p between two directions, or none
unfoldable pub wall_between : Scene → Point → Point → Point → Option ℕ
wall_between scene p e f = wall_by e f (ray_hit scene p (sum_of e f))

-- a sector between two neighbouring directions, with the wall or screen that is seen in it, or none
pub record Sector : Type 0 where
  pub from : Point
  pub to : Point
  pub wall : Option ℕ

-- the sector of a gap
abbrev pub sector_in : Scene → Point → Point × Point → Sector
sector_in scene p gap = record { from = gap.0; to = gap.1; wall = wall_between scene p gap.0 gap.1 }

-- the sectors round p, counterclockwise
abbrev pub sectors_of : Scene → Point → List Sector
sectors_of scene p = map (sector_in scene p) (gaps_of (corner_directions scene p))

-- the sector of a gap, by what the ray in the direction of its sum meets
abbrev pub sector_by : (Point × Point) × RayHit → Sector
sector_by e = record { from = e.0.0; to = e.0.1; wall = wall_by e.0.0 e.0.1 e.1 }

-- the sectors of gaps, by a list of what the rays in the directions of their sums meet
unfoldable pub sectors_by : List (Point × Point) → List RayHit → List Sector
sectors_by gaps hits = map sector_by (zip gaps hits)

-- ---- runs

-- consecutive sectors that have one wall or screen, as many as there are
pub record Run : Type 0 where
  pub from : Point
  pub to : Point
  pub wall : ℕ

-- the run from one direction to another with a wall
abbrev pub run : Point → Point → ℕ → Run
run from to wall = record { from = from; to = to; wall = wall }

-- the next sector has this wall
abbrev pub goes_on : ℕ → List Sector → Bool
goes_on wall [] = false
goes_on wall (s ∷ sectors) = is_it s.wall
  where
    is_it : Option ℕ → Bool
    is_it None = false
    is_it (Some next) = next == wall

-- a sector begins the run of the next one where that has its wall, and otherwise is a run of its own
abbrev pub run_before : Bool → Run → List Run → List Run
run_before goes_on first [] = first ∷ []
run_before goes_on first (next ∷ runs) =
    if goes_on then (run first.from next.to first.wall ∷ runs) else (first ∷ next ∷ runs)

-- the runs from a sector on: one without a wall begins none
abbrev pub run_of_sector : Sector → Option ℕ → Bool → List Run → List Run
run_of_sector s None goes_on runs = runs
run_of_sector s (Some wall) goes_on runs = run_before goes_on (run s.from s.to wall) runs

-- the next sector has the wall of this one
abbrev pub has_wall : Option ℕ → List Sector → Bool
has_wall None sectors = false
has_wall (Some wall) sectors = goes_on wall sectors

-- the runs in order; the last and the first aren't joined
unfoldable pub runs_of : List Sector → List Run
runs_of [] = []
runs_of (s ∷ sectors) = run_of_sector s s.wall (has_wall s.wall sectors) (runs_of sectors)

-- ---- triangles

-- a triangle of the point that sees, the point `from` and the point `to`, with its doubled area and its wall's number
pub record Triangle : Type 0 where
  pub from : RPoint
  pub to : RPoint
  pub doubled_area : Fraction
  pub wall : ℕ

-- what stands for a wall or screen where there is none
abbrev pub no_segment : Segment
no_segment = record { a = point (pos 0) (pos 0); b = point (pos 0) (pos 0) }

-- the wall or screen of a number
abbrev pub blocker_at : List Segment → ℕ → Segment
blocker_at lines n = get_or lines n no_segment

-- the doubled area between the hits at s e and t f
abbrev pub doubled_area_between : Point → Point → Fraction → Fraction → Fraction
doubled_area_between e f s t =
    reduced (record { num = s.num *ℤ t.num *ℤ cross_of e f; den = s.den *ℤ t.den })

-- the t at which the ray from p in direction d is on the line of the wall or screen of a number
abbrev pub meeting_with : Scene → Point → Point → ℕ → Fraction
meeting_with scene p d wall = wall_parameter p d (blocker_at (blockers_of_scene scene) wall)

-- the triangle of a run: its wall's line as it is hit in the run's two directions
unfoldable pub triangle_of : Scene → Point → Run → Triangle
triangle_of scene p r =
    record {
      from = along p r.from (meeting_with scene p r.from r.wall);
      to = along p r.to (meeting_with scene p r.to r.wall);
      doubled_area =
          doubled_area_between r.from r.to (meeting_with scene p r.from r.wall) (meeting_with scene p r.to r.wall);
      wall = r.wall;
    }

-- ---- the isovist

-- the triangles, and the sums of the floors and of the ceilings of their doubled areas
pub record Isovist : Type 0 where
  pub triangles : List Triangle
  pub floor : ℤ
  pub ceil : ℤ

-- the sum of the floors of the doubled areas
abbrev pub sum_of_floors : List Triangle → ℤ
sum_of_floors [] = pos 0
sum_of_floors (t ∷ triangles) = floor_of t.doubled_area +ℤ sum_of_floors triangles

-- the sum of their ceilings
abbrev pub sum_of_ceilings : List Triangle → ℤ
sum_of_ceilings [] = pos 0
sum_of_ceilings (t ∷ triangles) = ceil_of t.doubled_area +ℤ sum_of_ceilings triangles

-- the isovist of these triangles
abbrev pub isovist_by : List Triangle → Isovist
isovist_by triangles =
    record { triangles = triangles; floor = sum_of_floors triangles; ceil = sum_of_ceilings triangles }

-- what is seen from p in the scene
unfoldable pub isovist_in : Scene → Point → Isovist
isovist_in scene p = isovist_by (map (triangle_of scene p) (runs_of (sectors_of scene p)))

-- what is seen from an open point, or none where the point isn't open
abbrev pub isovist_of : Plan → Point → Option Isovist
isovist_of plan p = if is_open plan p then Some (isovist_in (scene_of plan) p) else None

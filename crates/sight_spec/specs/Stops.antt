-- How far a ray reaches, and which wall or screen it meets first.
use Rattle.std.specs.Prelude.{ℕ, pos, ◌-ℤ◌, Bool, false, ◌&&◌, not, int_lt, int_le, List, ◌++◌, Option, Some, None, if◌then◌else◌}
use Rattle.std.specs.Option.{option_map}
use Rattle.std.specs.Ordering.{int_eq}
use Rattle.std.specs.List.{list_any, filter_map, position}
use Rattle.plane_spec.specs.declared.Point.{Point}
use Rattle.plane_spec.specs.declared.Segment.{Segment}
use Rattle.plane_spec.specs.declared.Corner.{Corner}
use Rattle.plane_spec.specs.Lists.{min_by}
use Rattle.plane_spec.specs.Vectors.{vector, cross_of, dot_of, turns_left}
use Rattle.plane_spec.specs.Segments.{are_opposite}
use Rattle.plane_spec.specs.Cones.{is_in_cone}
use Rattle.plane_spec.specs.Fractions.{Fraction, fraction, whole, is_before, reduced}
use Rattle.sight_spec.specs.Scene.{Scene, blockers_of_scene}
use Rattle.sight_spec.specs.Sight.{is_in_interior}

-- the ends lie strictly on both sides of the line through p in direction d
abbrev pub is_across : Point → Point → Segment → Bool
is_across p d w = are_opposite (cross_of d (vector p w.a)) (cross_of d (vector p w.b))

-- the t at which p + t d is on the line of w
abbrev pub wall_parameter : Point → Point → Segment → Fraction
wall_parameter p d w = fraction (cross_of (vector p w.a) (vector p w.b)) (cross_of d (vector p w.b) -ℤ cross_of d (vector p w.a))

-- the ray meets the wall or screen between its ends, at a t above 0
unfoldable pub blocker_hit : Point → Point → Segment → Option Fraction
blocker_hit p d w = if is_across p d w && int_lt (pos 0) (wall_parameter p d w).num then Some (wall_parameter p d w) else None

-- the corner stands at p + t d for a t of at least 0, and has d in its cone
abbrev pub runs_into : Point → Point → Corner → Bool
runs_into p d c =
    int_eq (cross_of d (vector p c.here)) (pos 0) && (int_le (pos 0) (dot_of d (vector p c.here)) && is_in_cone c d)

-- the t at which the ray runs into the corner
unfoldable pub corner_hit : Point → Point → Corner → Option Fraction
corner_hit p d c =
    if runs_into p d c then Some (record { num = dot_of d (vector p c.here); den = dot_of d d }) else None

-- p lies on the wall, not at its ends, and d leads to its left: t is 0
unfoldable pub start_hit : Point → Point → Segment → Option Fraction
start_hit p d w = if is_in_interior p w && turns_left (vector w.a w.b) d then Some (whole (pos 0)) else None

-- the earlier of two hits, the first where neither is
abbrev pub nearer : Option Fraction → Option Fraction → Option Fraction
nearer None hit = hit
nearer (Some best) None = Some best
nearer (Some best) (Some hit) = if is_before hit best then Some hit else Some best

-- all the t at which the ray from p in direction d is stopped
abbrev pub hits_of : Scene → Point → Point → List Fraction
hits_of scene p d =
    filter_map (blocker_hit p d) (blockers_of_scene scene) ++ (filter_map (corner_hit p d) scene.corners ++ filter_map (start_hit p d) scene.walls)

-- the least t at which the ray is stopped, in lowest terms, or none
unfoldable pub stop_of : Scene → Point → Point → Option Fraction
stop_of scene p d = option_map reduced (min_by is_before (hits_of scene p d))

-- w is hit, and none of the walls and screens is hit before it
abbrev pub is_nearest : Point → Point → List Segment → Segment → Bool
is_nearest p d lines w = is_first (blocker_hit p d w)
  where
    is_first : Option Fraction → Bool
    is_first None = false
    is_first (Some hit) = not (list_any (λ other. is_before other hit) (filter_map (blocker_hit p d) lines))

-- the number of the first wall, or screen after them, that is hit nearest, or none
unfoldable pub near_wall_of : Scene → Point → Point → Option ℕ
near_wall_of scene p d = position (is_nearest p d (blockers_of_scene scene)) (blockers_of_scene scene)

-- what a ray meets: the t at which it is stopped, and the number of the nearest wall or screen
pub record RayHit : Type 0 where
  pub stop : Option Fraction
  pub wall : Option ℕ

-- what the ray from p in direction d meets
abbrev pub ray_hit : Scene → Point → Point → RayHit
ray_hit scene p d = record { stop = stop_of scene p d; wall = near_wall_of scene p d }

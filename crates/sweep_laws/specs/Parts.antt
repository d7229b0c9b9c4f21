-- What decides sight and stops in one direction: what is first in it, its nearest corners, and what the station stands
-- on.
use Rattle.std.specs.List.{list_any}
use Rattle.std.specs.Ordering.{int_eq}
use Rattle.std.specs.Prelude.{◌≡◌, Bool, false, ◌&&◌, ◌||◌, List, Option, Some, None, if◌then◌else◌, pos, int_lt}
use Rattle.std.specs.Prelude.{int_le}
use Rattle.plane_spec.specs.Fractions.{Fraction, whole}
use Rattle.plane_spec.specs.Vectors.{vector, turns_left, dot_of}
use Rattle.plane_spec.specs.declared.Corner.{Corner}
use Rattle.plane_spec.specs.declared.Point.{Point}
use Rattle.plane_spec.specs.declared.Segment.{Segment}
use Rattle.sight_spec.specs.Scene.{Scene}
use Rattle.sight_spec.specs.Sight.{is_in_interior}
use Rattle.sight_spec.specs.Stops.{nearer}
use Rattle.front_laws.specs.Seen.{Seen, side_of, hit_of}
use Rattle.sweep_laws.specs.Groups.{IsNearest, is_own}
use Rattle.std.specs.Prelude.{ℕ, nat_lt, length}
use Rattle.std.proofs.Common.{get_or}
use Rattle.plane_spec.specs.Vectors.{cross_of}
use Rattle.sight_spec.specs.Isovist.{no_segment}

-- the nearest corner of the direction that passes the test, or none
abbrev pub IsNearestOrNone : Point → Point → (Corner → Bool) → List Corner → Option Point → Type 0
IsNearestOrNone p d test corners None = list_any test corners ≡ false
IsNearestOrNone p d test corners (Some v) = IsNearest p d test corners v

-- the direction leads from the wall on which the station stands to the wall's left
abbrev pub leaves_left : Point → Point → Segment → Bool
leaves_left p d w = is_in_interior p w && turns_left (vector w.a w.b) d

-- the direction leads from the station into what is blocked
abbrev pub begins_blocked : Scene → Point → Point → Bool
begins_blocked scene p d = list_any (leaves_left p d) scene.walls || list_any (is_own p d) scene.corners

-- ---- sight

-- the wall has the point strictly on its left
abbrev pub has_on_left : Point → Segment → Bool
has_on_left p w = int_lt (pos 0) (cross_of (vector p w.a) (vector p w.b))

-- the one of the number is a wall that has the station on its left: a point on it is behind what is blocked
abbrev pub hides_itself : Point → List Segment → ℕ → Bool
hides_itself p walls k = nat_lt k (length walls) && has_on_left p (get_or walls k no_segment)

-- what is first is such a wall
abbrev pub first_hides : Scene → Point → Option (ℕ × Seen) → Bool
first_hides scene p None = false
first_hides scene p (Some first) = hides_itself p scene.walls first.0

-- a point at d is behind the line of what is first, or on it where that `hides` what stands on it
abbrev pub is_hidden : Bool → Point → Option Seen → Bool
is_hidden hides d None = false
is_hidden hides d (Some s) = int_lt (side_of s d) (pos 0) || (int_eq (side_of s d) (pos 0) && hides)

-- the corner at v is nearer than a point at d
abbrev pub is_nearer : Point → Option Point → Bool
is_nearer d None = false
is_nearer d (Some v) = int_lt (dot_of d v) (dot_of d d)

-- the corner at v is no farther than a point at d
abbrev pub is_up_to : Point → Option Point → Bool
is_up_to d None = false
is_up_to d (Some v) = int_le (dot_of d v) (dot_of d d)

-- ---- how far a ray reaches

-- where the ray meets the first blocker
abbrev pub blocker_stop : Point → Option Seen → Option Fraction
blocker_stop d None = None
blocker_stop d (Some s) = Some (hit_of d s)

-- where it reaches the nearest corner ahead
abbrev pub corner_stop : Point → Option Point → Option Fraction
corner_stop d None = None
corner_stop d (Some v) = Some (record { num = dot_of d v; den = dot_of d d })

-- where it begins, if it begins blocked
abbrev pub start_stop : Bool → Option Fraction
start_stop begins = if begins then Some (whole (pos 0)) else None

-- the first of these: what is first in the direction, the nearest corner ahead, and the start
abbrev pub first_stop : Point → Option Seen → Option Point → Bool → Bool → Option Fraction
first_stop d first ahead from_corner from_wall =
    nearer (blocker_stop d first) (nearer (nearer (corner_stop d ahead) (start_stop from_corner))
    (start_stop from_wall))

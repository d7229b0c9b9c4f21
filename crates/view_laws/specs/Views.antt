-- What a view says of each direction.
use Rattle.std.proofs.Common.{◌≡◌, ℕ, ◌+◌, ℤ, pos, ◌+ℤ◌, ◌<ℤ◌, get_or}
use Rattle.std.specs.Option.{option_map}
use Rattle.std.specs.Ordering.{int_eq}
use Rattle.std.specs.Prelude.{ℕ, ◌+◌, ◌<◌, ◌==◌, ℤ, ◌+ℤ◌, ◌≡◌, if◌then◌else◌, ◌&&◌, ◌||◌, [], ◌∷◌, Bool, true, not, All}
use Rattle.std.specs.Prelude.{unsigned_abs, nat_lt, pos, int_lt, List, length, Option, false, Some, None, AllPairs}
use Rattle.plane_spec.specs.Cones.{is_in_cone}
use Rattle.plane_spec.specs.Fractions.{Fraction}
use Rattle.plane_spec.specs.Vectors.{cross_of, dot_of, is_upper, turns_left, vector, IsDirection, IsDirected}
use Rattle.plane_spec.specs.declared.Point.{Point}
use Rattle.sight_spec.specs.Scene.{Scene}
use Rattle.sight_spec.specs.Stops.{nearer}
use Rattle.front_laws.specs.Seen.{Seen, side_of}
use Rattle.sweep_laws.specs.First.{IsFirst}
use Rattle.sweep_laws.specs.Groups.{no_corner, is_ahead, is_behind}
use Rattle.sweep_laws.specs.Parts.{begins_blocked, start_stop}
use Rattle.turn_laws.specs.Places.{place_of}
use Rattle.view_laws.specs.declared.view.Arc.{Arc}
use Rattle.view_laws.specs.declared.view.Front.{Front}
use Rattle.view_laws.specs.declared.view.Ground.{Ground}
use Rattle.view_laws.specs.declared.view.Sector.{Sector}
use Rattle.view_laws.specs.declared.view.View.{View}
use Rattle.view_laws.specs.declared.view.Arc.TheVariants as arcs
use Rattle.plane_spec.specs.declared.Corner as corners
use Rattle.view_laws.specs.declared.view.Ground.TheVariants as grounds
use Rattle.sweep_laws.specs.Parts.{hides_itself}

-- ---- arcs

-- the direction is one of the arc
unfoldable pub is_in_arc : Arc → Point → Bool
is_in_arc arcs.All d = true
is_in_arc arcs.Later d = is_upper d
is_in_arc (arcs.Between first last) d = is_upper d && (not (turns_left d first) && not (turns_left last d))

-- ---- one direction

-- how far a vector leads, in the sum of the sizes of both coordinates
abbrev pub length_of : Point → ℕ
length_of d = unsigned_abs d.x + unsigned_abs d.y

-- what is first, as far as sides and hits need it
abbrev pub front_of : Scene → Point → ℕ × Seen → Front
front_of scene p first = record {
  edge = vector first.1.from first.1.to;
  spread = cross_of first.1.from first.1.to;
  number = first.0;
  hides = hides_itself p scene.walls first.0;
}

-- what a view says of one direction: what is first, and how far off the nearest corners are that are led into, on the
-- way out and on the way back
pub record Radial : Type 0 where
  pub front : Option Front
  pub ahead : Option ℕ
  pub behind : Option ℕ

-- strictly behind the line of what is first
abbrev pub is_past_first : Option (ℕ × Seen) → Point → Bool
is_past_first None v = false
is_past_first (Some first) v = int_lt (side_of first.1 v) (pos 0)

-- the corner passes the test, and is so far off
pub record IsSoFar (p : Point) (test : corners.Corner → Bool) (corners : List corners.Corner) (far : ℕ) : Type 0 where
  pub at : ℕ
  pub within : at < length corners
  pub passes : test (get_or corners at no_corner) ≡ true
  pub far_is : length_of (vector p (get_or corners at no_corner).here) ≡ far

-- the same, where there is a distance
abbrev pub IsSoFarOrNone : Point → (corners.Corner → Bool) → List corners.Corner → Option ℕ → Type 0
IsSoFarOrNone p test corners None = true ≡ true
IsSoFarOrNone p test corners (Some far) = IsSoFar p test corners far

-- the distance is at most that of a point at v
abbrev pub is_up_to_end_of : Option ℕ → Point → Bool
is_up_to_end_of None v = false
is_up_to_end_of (Some far) v = not (nat_lt (length_of v) far)

-- the distance is that of a corner which passes the test, and each that does is no nearer, or behind what is first
pub record IsReached (p : Point) (test : corners.Corner → Bool) (corners : List corners.Corner)
    (first : Option (ℕ × Seen)) (far : Option ℕ) : Type 0 where
  pub some : IsSoFarOrNone p test corners far
  pub all : (j : ℕ) → j < length corners → test (get_or corners j no_corner) ≡ true
      → (is_up_to_end_of far (vector p (get_or corners j no_corner).here)
      || is_past_first first (vector p (get_or corners j no_corner).here)) ≡ true

-- what is said of direction d is so
pub record IsRadial (scene : Scene) (p d : Point) (radial : Radial) : Type 0 where
  pub first : Option (ℕ × Seen)
  pub is_first : IsFirst scene p d first
  pub front : radial.front ≡ option_map (front_of scene p) first
  pub ahead : IsReached p (is_ahead p d) scene.corners first radial.ahead
  pub behind : IsReached p (is_behind p d) scene.corners first radial.behind

-- ---- views

-- between two sectors: only what is first
abbrev pub radial_between : Option Front → Radial
radial_between front = record { front = front; ahead = None; behind = None }

-- in a sector's own direction
abbrev pub radial_on : Sector → Radial
radial_on s = record { front = s.on; ahead = s.ahead; behind = s.behind }

-- at the place of a sector, what it says of its direction; from there up to the next, what is first after it
unfoldable pub radial_by : Option Front → List Sector → ℕ → Radial
radial_by before [] place = radial_between before
radial_by before (s ∷ rest) place = if nat_lt place s.place then radial_between before
    else (if place == s.place then radial_on s else radial_by s.after rest place)

-- the sectors come in the order of their places
abbrev pub AreInOrder : List Sector → Type 0
AreInOrder sectors = AllPairs (λ s t. s.place < t.place) sectors

-- what the sector says of a place that is its own, or comes before the next sector's
abbrev pub radial_at : Sector → ℕ → Radial
radial_at s place = if place == s.place then radial_on s else radial_between s.after

-- what the view says of direction d
abbrev pub radial_of : View → Point → Radial
radial_of view d = radial_by view.before view.sectors.items (place_of d)

-- the direction leads from what the station stands on into what is blocked
unfoldable pub is_led_into : Ground → Point → Bool
is_led_into grounds.Free d = false
is_led_into (grounds.Corner c) d = is_in_cone c d
is_led_into (grounds.Wall w) d = turns_left (vector w.a w.b) d

-- the view from p in the directions of the arc: in a sector's direction the first is `on`, between two sectors it is
-- the former's `after`, and a corner in a direction without a sector is behind the first
pub record IsViewOf (scene : Scene) (p : Point) (arc : Arc) (view : View) : Type 0 where
  pub ground : (d : Point) → IsDirection d → IsDirected d → begins_blocked scene p d ≡ is_led_into view.ground d
  pub tells : (d : Point) → IsDirection d → IsDirected d → is_in_arc arc d ≡ true
      → IsRadial scene p d (radial_of view d)
  pub order : AreInOrder view.sectors.items
  pub ways : All (λ s. place_of s.way ≡ s.place) view.sectors.items

-- ---- answers

-- positive on the station's side of the front's line
abbrev pub side_at : Front → Point → ℤ
side_at f d = f.spread +ℤ cross_of f.edge d

-- a point at d is hidden by it
abbrev pub is_hidden_by : Option Front → Point → Bool
is_hidden_by None d = false
is_hidden_by (Some f) d = int_lt (side_at f d) (pos 0) || (int_eq (side_at f d) (pos 0) && f.hides)

-- the distance is less than that of a point at d
abbrev pub is_before_end_of : Option ℕ → Point → Bool
is_before_end_of None d = false
is_before_end_of (Some far) d = nat_lt far (length_of d)

-- the point at d is seen, by what is said of its direction
unfoldable pub is_seen_by : Bool → Radial → Point → Bool
is_seen_by begins radial d = not (begins || (is_hidden_by radial.front d
    || (is_before_end_of radial.ahead d || is_up_to_end_of radial.behind d)))

-- where the ray meets what is first
abbrev pub hit_by : Point → Option Front → Option Fraction
hit_by d None = None
hit_by d (Some f) = Some (record { num = f.spread; den = cross_of d f.edge })

-- where it reaches a corner so far off
abbrev pub corner_by : Point → Option ℕ → Option Fraction
corner_by d None = None
corner_by d (Some far) = Some (record { num = pos far; den = pos (length_of d) })

-- where the ray in direction d is stopped
unfoldable pub stop_by : Bool → Radial → Point → Option Fraction
stop_by begins radial d = nearer (hit_by d radial.front) (nearer (corner_by d radial.ahead) (start_stop begins))

-- the number of what is first
abbrev pub number_by : Option Front → Option ℕ
number_by None = None
number_by (Some f) = Some f.number

-- v is in direction d
pub record IsAlong (d v : Point) : Type 0 where
  pub line : cross_of d v ≡ pos 0
  pub ahead : pos 0 <ℤ dot_of d v

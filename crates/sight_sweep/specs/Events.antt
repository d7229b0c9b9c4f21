-- The corners of an arc, in the order of their directions.
use Rattle.std.specs.Prelude.{ℕ, ◌<◌, ◌+◌, ◌*◌, ◌/◌, ◌%◌, ◌≡◌, Bool, true, List, length, All}
use Rattle.std.specs.List.{Contains}
use Rattle.std.specs.List.Sorted.{IsNonDecreasing}
use Rattle.std.proofs.Common.{get_or}
use Rattle.plane_spec.specs.declared.Point.{Point}
use Rattle.plane_spec.specs.declared.Corner.{Corner}
use Rattle.plane_spec.specs.Vectors.{vector, IsDirected}
use Rattle.sweep_laws.specs.Groups.{no_corner}
use Rattle.turn_laws.specs.Places.{place_of}
use Rattle.view_laws.specs.declared.view.Arc.{Arc}
use Rattle.view_laws.specs.Views.{is_in_arc}

-- the vector from the station to the corner of the number
abbrev pub way_at : Point → List Corner → ℕ → Point
way_at p corners k = vector p (get_or corners k no_corner).here

-- the number of an event's corner
abbrev pub corner_of : ℕ → ℕ
corner_of event = event % 2048

-- the place of an event's direction
abbrev pub place_at : ℕ → ℕ
place_at event = event / 2048

-- it is a corner of the arc, and the place of its direction
pub record IsEvent (corners : List Corner) (p : Point) (arc : Arc) (event : ℕ) : Type 0 where
  pub within : corner_of event < length corners
  pub directed : IsDirected (way_at p corners (corner_of event))
  pub in_arc : is_in_arc arc (way_at p corners (corner_of event)) ≡ true
  pub place : place_at event ≡ place_of (way_at p corners (corner_of event))

-- each of the first so many corners that is in the arc and shown has its event
abbrev pub HasAll : List Corner → Point → Arc → (ℕ → Bool) → ℕ → List ℕ → Type 0
HasAll corners p arc shown count events = (k : ℕ) → k < count → k < length corners → shown k ≡ true
    → IsDirected (way_at p corners k) → is_in_arc arc (way_at p corners k) ≡ true
    → Contains events (place_of (way_at p corners k) * 2048 + k)

-- events of corners, among them those of the first so many corners that are in the arc and shown
pub record AreFirstEvents (corners : List Corner) (p : Point) (arc : Arc) (shown : ℕ → Bool) (count : ℕ)
    (events : List ℕ) : Type 0 where
  pub each : All (IsEvent corners p arc) events
  pub all : HasAll corners p arc shown count events

-- corners of the arc, among them all that are shown, in the order of their directions
pub record AreEvents (corners : List Corner) (p : Point) (arc : Arc) (shown : ℕ → Bool) (events : List ℕ)
    : Type 0 where
  pub sorted : IsNonDecreasing events
  pub each : All (IsEvent corners p arc) events
  pub all : (k : ℕ) → k < length corners → shown k ≡ true → IsDirected (way_at p corners k)
      → is_in_arc arc (way_at p corners k) ≡ true
      → Contains events (place_of (way_at p corners k) * 2048 + k)

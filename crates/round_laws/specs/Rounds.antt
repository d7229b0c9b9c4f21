-- The way round, by the places of corners: what is open just before a place, and what the list of the round holds
-- there.
use Rattle.std.proofs.Common.{◌≡◌, ℕ, ◌<◌, ◌<ℤ◌, ◌==◌, pos, [], ◌∷◌, List, length, get_or}
use Rattle.std.specs.List.{list_any}
use Rattle.std.specs.Option.{option_map}
use Rattle.std.specs.Prelude.{true, Some, Bool, ℕ, ◌<◌, ◌==◌, nat_lt, ◌≡◌, [], ◌∷◌, not, List, length, All, AllPairs}
use Rattle.std.specs.Prelude.{Option, None}
use Rattle.plane_spec.specs.Vectors.{cross_of, IsDirection, IsDirected, vector}
use Rattle.plane_spec.specs.declared.Point.{Point}
use Rattle.plane_spec.specs.declared.Segment.{Segment}
use Rattle.sight_spec.specs.Scene.{Scene, blockers_of_scene}
use Rattle.front_laws.specs.Seen.{Seen, spans, are_apart, seen_at, is_in_front}
use Rattle.sweep_laws.specs.First.{AreAllApart}
use Rattle.sweep_laws.specs.Groups.{no_corner, is_ahead, is_behind}
use Rattle.round_laws.specs.Kept.{AreCovered}
use Rattle.turn_laws.specs.Places.{place_of}
use Rattle.turn_laws.specs.Turns.{among_by}
use Rattle.view_laws.specs.Views.{is_in_arc, front_of, IsRadial, radial_by, AreInOrder, is_past_first}
use Rattle.view_laws.specs.declared.view.Arc.{Arc}
use Rattle.view_laws.specs.declared.view.Front.{Front}
use Rattle.view_laws.specs.declared.view.Sector.{Sector}
use Rattle.plane_spec.specs.declared.Corner as corners

-- ---- blockers

-- two walls that one direction spans are apart, both ways
abbrev pub AreApartAhead : Seen → Seen → Type 0
AreApartAhead s t = (d : Point) → spans d s ≡ true → spans d t ≡ true → (are_apart s t ≡ true) × (are_apart t s ≡ true)

-- its ends are in directions of a plan, the second left of the first
pub record IsBlocker (s : Seen) : Type 0 where
  pub from_in : IsDirection s.from
  pub to_in : IsDirection s.to
  pub from_some : IsDirected s.from
  pub to_some : IsDirected s.to
  pub up : pos 0 <ℤ cross_of s.from s.to

-- each wall and screen that is seen is a blocker
abbrev pub AreBlockers : Point → List Segment → Type 0
AreBlockers p blockers = (n : ℕ) (s : Seen) → n < length blockers → seen_at p blockers n ≡ Some s → IsBlocker s

-- ---- by places

-- the place is strictly between the blocker's ends, counterclockwise from its first
abbrev pub is_spanned_at : ℕ → ℕ → ℕ → Bool
is_spanned_at from to place = among_by (nat_lt from to) (nat_lt from place) (nat_lt place to)

-- the blocker is open just before the place: it began before it, and ends at it or after it
abbrev pub is_open_at : ℕ → ℕ → ℕ → Bool
is_open_at from to place = among_by (nat_lt from to) (nat_lt from place) (not (nat_lt to place))

-- neither of its ends is at a place from low up to high, which isn't with them
pub record HasNoEnd (from to low high : ℕ) : Type 0 where
  pub no_from : nat_lt from low ≡ nat_lt from high
  pub no_to : nat_lt to low ≡ nat_lt to high

-- the place of its first end
abbrev pub from_place : Seen → ℕ
from_place s = place_of s.from

-- the place of its second end
abbrev pub to_place : Seen → ℕ
to_place s = place_of s.to

-- no kept one has an end at a place from low up to high, which isn't with them
abbrev pub EndNowhere : Point → List Segment → (ℕ → Bool) → ℕ → ℕ → Type 0
EndNowhere p blockers kept low high = (n : ℕ) (s : Seen) → n < length blockers → kept n ≡ true → seen_at p blockers n
    ≡ Some s → HasNoEnd (from_place s) (to_place s) low high

-- ---- the list of the round

-- a blocker of the list: its number, and how it is seen
abbrev pub Numbered : Type 0
Numbered = ℕ × Seen

-- it has the number n
abbrev pub is_number : ℕ → Numbered → Bool
is_number n b = b.0 == n

-- the list holds kept blockers in their order, and of the kept ones exactly those that pass the test
pub record Holds (p : Point) (blockers : List Segment) (kept : ℕ → Bool) (test : ℕ → Seen → Bool)
    (active : List Numbered) : Type 0 where
  pub order : AllPairs (λ v w. is_in_front v.1 w.1 ≡ true) active
  pub known : All (λ b. seen_at p blockers b.0 ≡ Some b.1) active
  pub numbers : All (λ b. b.0 < length blockers) active
  pub are_kept : All (λ b. kept b.0 ≡ true) active
  pub exactly : (n : ℕ) (s : Seen) → n < length blockers → kept n ≡ true → seen_at p blockers n ≡ Some s
      → list_any (is_number n) active ≡ test n s

-- between two groups of corners: the kept ones that are open just before the place
abbrev pub HoldsBefore : Point → List Segment → (ℕ → Bool) → ℕ → List Numbered → Type 0
HoldsBefore p blockers kept place active = Holds p blockers kept (λ n s. is_open_at (from_place s) (to_place s) place)
    active

-- within a group, once all that end there are out: the kept ones that the group's direction spans
abbrev pub HoldsAt : Point → List Segment → (ℕ → Bool) → ℕ → List Numbered → Type 0
HoldsAt p blockers kept place active = Holds p blockers kept (λ n s. is_spanned_at (from_place s) (to_place s) place)
    active

-- what a list of the round has first
abbrev pub first_held : List Numbered → Option (ℕ × Seen)
first_held [] = None
first_held (b ∷ rest) = Some b

-- ---- the sectors so far

-- what is first after the sectors so far
unfoldable pub front_after : Option Front → List Sector → Option Front
front_after before [] = before
front_after before (s ∷ rest) = front_after s.after rest

-- of each direction of the arc below the place the sectors say what is so, and what is first after them is the first
-- of the list
pub record AreRadialsBelow (scene : Scene) (p : Point) (arc : Arc) (before : Option Front) (sectors : List Sector)
    (place : ℕ) (active : List Numbered) : Type 0 where
  pub tells : (d : Point) → IsDirection d → IsDirected d → is_in_arc arc d ≡ true → place_of d < place
      → IsRadial scene p d (radial_by before sectors (place_of d))
  pub order : AreInOrder sectors
  pub below : All (λ s. s.place < place) sectors
  pub front : front_after before sectors ≡ option_map (front_of scene p) (first_held active)

-- the invariant of the round, between two groups of corners: the sectors say what is so below the place, and the list
-- holds what is open there
pub record IsRound (scene : Scene) (p : Point) (arc : Arc) (kept : ℕ → Bool) (before : Option Front)
    (sectors : List Sector) (place : ℕ) (active : List Numbered) : Type 0 where
  pub radials : AreRadialsBelow scene p arc before sectors place active
  pub held : HoldsBefore p (blockers_of_scene scene) kept place active

-- each corner of the direction is behind the first, whichever way it is led into
abbrev pub AreAllPast : Point → Point → (corners.Corner → Bool) → List corners.Corner → Option (ℕ × Seen) → Type 0
AreAllPast p d test corners first = (j : ℕ) → j < length corners → test (get_or corners j no_corner) ≡ true
    → is_past_first first (vector p (get_or corners j no_corner).here) ≡ true

-- ---- a station in a sound plan

-- what is so of walls and screens as they are seen from a station, wherever it stands in a sound plan
pub record AreWalls (scene : Scene) (p : Point) : Type 0 where
  pub blockers : AreBlockers p (blockers_of_scene scene)
  pub apart : (d : Point) → AreAllApart p d (blockers_of_scene scene)

-- in the directions of the arc each wall that is left out is covered
abbrev pub AreCoveredIn : Scene → Point → Arc → (ℕ → Bool) → Type 0
AreCoveredIn scene p arc kept = (d : Point) → IsDirection d → IsDirected d → is_in_arc arc d ≡ true
    → AreCovered p d (blockers_of_scene scene) kept

-- all corners of the direction are behind the first: nothing need be said of them
pub record AreHidden (scene : Scene) (p d : Point) (first : Option (ℕ × Seen)) : Type 0 where
  pub ahead : (j : ℕ) → j < length scene.corners → is_ahead p d (get_or scene.corners j no_corner) ≡ true
      → is_past_first first (vector p (get_or scene.corners j no_corner).here) ≡ true
  pub behind : (j : ℕ) → j < length scene.corners → is_behind p d (get_or scene.corners j no_corner) ≡ true
      → is_past_first first (vector p (get_or scene.corners j no_corner).here) ≡ true

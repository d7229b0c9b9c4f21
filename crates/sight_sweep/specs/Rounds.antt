-- The round, between two groups of corners and within one.
use Rattle.std.specs.Prelude.{ℕ, ◌<◌, ◌≤◌, ◌==◌, ◌≡◌, Bool, true, false, ◌&&◌, ◌||◌, not, nat_lt, if◌then◌else◌}
use Rattle.std.specs.Prelude.{int_lt, pos, List, [], ◌∷◌, map, length, Option, Some, None, All}
use Rattle.std.specs.List.{list_any}
use Rattle.std.proofs.Common.{get_or}
use Rattle.plane_spec.specs.declared.Point.{Point}
use Rattle.plane_spec.specs.declared.Corner.{Corner}
use Rattle.plane_spec.specs.Vectors.{same_point, turns_left, IsDirected, reversed_direction}
use Rattle.plane_spec.specs.Cones.{is_in_cone}
use Rattle.sight_spec.specs.Scene.{Scene, blockers_of_scene}
use Rattle.sweep_laws.specs.Groups.{no_corner}
use Rattle.front_laws.specs.Seen.{Seen, side_of, spans}
use Rattle.front_laws.specs.Seen.{seen_at}
use Rattle.turn_laws.specs.Places.{place_of}
use Rattle.view_laws.specs.declared.view.Arc.{Arc}
use Rattle.view_laws.specs.declared.view.Front.{Front}
use Rattle.view_laws.specs.declared.view.Sector.{Sector}
use Rattle.view_laws.specs.Views.{length_of}
use Rattle.round_laws.specs.Rounds.{is_open_at, from_place, to_place, AreRadialsBelow}
use Rattle.sight_sweep.specs.declared.blocker.Blocker.{Blocker}
use Rattle.sight_sweep.specs.Actives.{seen, numbered, IsActive}
use Rattle.sight_sweep.specs.Arcs.{start_place, end_place}
use Rattle.sight_sweep.specs.Events.{way_at, corner_of, place_at, IsEvent}
use Rattle.sight_sweep.specs.Ways.{IsToCorner}

-- open just before the place; at the start what ends there isn't with it
abbrev pub is_held_at : ℕ → ℕ → ℕ → ℕ → Bool
is_held_at start from to place = is_open_at from to place && not ((to == start) && (place == start))

-- all below the place is told, and the list holds what is open there
pub record IsUnderway (scene : Scene) (p : Point) (arc : Arc) (kept : ℕ → Bool) (start : ℕ) (before : Option Front)
    (sectors : List Sector) (place : ℕ) (active : List Blocker) : Type 0 where
  pub radials : AreRadialsBelow scene p arc before sectors place (map numbered active)
  pub holds : IsActive scene p kept (λ n s. is_held_at start (from_place s) (to_place s) place) active
  pub ways : All (λ s. place_of s.way ≡ s.place) sectors
  pub to_corners : All (IsToCorner scene p) sectors
  pub since : start ≤ place

-- where the loop stands: all below a place is told, and the next group begins at `from`
pub record IsGoing (scene : Scene) (p : Point) (arc : Arc) (kept : ℕ → Bool) (before : Option Front)
    (sectors : List Sector) (events : List ℕ) (from k : ℕ) (active : List Blocker) : Type 0 where
  pub place : ℕ
  pub underway : IsUnderway scene p arc kept (start_place arc) before sectors place active
  pub last : place ≤ end_place arc
  pub order : from ≤ k
  pub passed : (i : ℕ) → i < from → place_at (get_or events i 0) < place
  pub coming : (i : ℕ) → from ≤ i → i < length events → place ≤ place_at (get_or events i 0)
  pub same : (i : ℕ) → from ≤ i → i ≤ k → i < length events → place_at (get_or events i 0)
      ≡ place_at (get_or events from 0)
  pub all_passed : length events ≤ k → from ≡ k

-- ---- groups

-- one of the events is the corner at which it ends
abbrev pub ends_among : Point → List Corner → List ℕ → Seen → Bool
ends_among p corners events s = list_any (λ e. same_point s.to (way_at p corners (corner_of e))) events

-- one of the events is the corner at which it begins
abbrev pub begins_among : Point → List Corner → List ℕ → Seen → Bool
begins_among p corners events s = list_any (λ e. same_point s.from (way_at p corners (corner_of e))) events

-- the events are all corners of the arc at the place that are shown, and what is kept ends and begins there at them
pub record IsGroup (scene : Scene) (p : Point) (arc : Arc) (kept shown : ℕ → Bool) (place : ℕ) (group : List ℕ)
    : Type 0 where
  pub some : 0 < length group
  pub each : All (IsEvent scene.corners p arc) group
  pub places : All (λ e. place_at e ≡ place) group
  pub ends : (n : ℕ) (s : Seen) → n < length (blockers_of_scene scene) → kept n ≡ true
      → seen_at p (blockers_of_scene scene) n ≡ Some s → to_place s ≡ place → ends_among p scene.corners group s ≡ true
  pub begins : (n : ℕ) (s : Seen) → n < length (blockers_of_scene scene) → kept n ≡ true
      → seen_at p (blockers_of_scene scene) n ≡ Some s → from_place s ≡ place
      → begins_among p scene.corners group s ≡ true
  pub corners : (k : ℕ) → k < length scene.corners → shown k ≡ true → IsDirected (way_at p scene.corners k)
      → place_of (way_at p scene.corners k) ≡ place
      → list_any (λ e. corner_of e == k) group ≡ true

-- ---- what is told of a group

-- the direction to the event's corner leads into it
abbrev pub leads_ahead : Point → List Corner → ℕ → Bool
leads_ahead p corners e = is_in_cone (get_or corners (corner_of e) no_corner) (way_at p corners (corner_of e))

-- the way back leads into it
abbrev pub leads_behind : Point → List Corner → ℕ → Bool
leads_behind p corners e = is_in_cone (get_or corners (corner_of e) no_corner)
    (reversed_direction (way_at p corners (corner_of e)))

-- how far off the event's corner is
abbrev pub far_of : Point → List Corner → ℕ → ℕ
far_of p corners e = length_of (way_at p corners (corner_of e))

-- the lesser of a length, if there is one, and another
abbrev pub lesser_of : Option ℕ → ℕ → Option ℕ
lesser_of None far = Some far
lesser_of (Some least) far = Some (if nat_lt far least then far else least)

-- the least length of the events that pass the test so far and of those that follow
unfoldable pub least_from : (ℕ → Bool) → (ℕ → ℕ) → Option ℕ → List ℕ → Option ℕ
least_from test far least [] = least
least_from test far least (e ∷ rest) = least_from test far (if test e then lesser_of least (far e) else least) rest

-- strictly behind the line of the first, if there is one
abbrev pub is_past : Option Blocker → Point → Bool
is_past None v = false
is_past (Some b) v = int_lt (side_of (seen b) v) (pos 0)

-- both vectors lead to the left of the direction, or both to its right
abbrev pub are_beside : Point → Point → Point → Bool
are_beside d a b = (turns_left d a && turns_left d b) || (turns_left a d && turns_left b d)

-- the direction spans it, and its number is below
abbrev pub spanned_so_far : Point → ℕ → ℕ → Seen → Bool
spanned_so_far d count n s = spans d s && nat_lt n count

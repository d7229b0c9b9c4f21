-- What a look leaves out.
--
-- A wall or screen need not be looked at where a kept one hides it: the directions to both of its ends span that one
-- cover, which has both ends strictly behind its line. Then each direction that spans it spans the cover too, and meets
-- the cover first. A corner need not be told where none of what is kept ends at it and a cover hides it: it is behind
-- what is first in its direction.
use Rattle.std.specs.Prelude.{ℕ, ◌<◌, ◌≡◌, Bool, true, false, ◌&&◌, int_lt, pos, List, length, Some}
use Rattle.std.proofs.Common.{get_or}
use Rattle.plane_spec.specs.declared.Point.{Point}
use Rattle.plane_spec.specs.declared.Corner.{Corner}
use Rattle.plane_spec.specs.declared.Segment.{Segment}
use Rattle.plane_spec.specs.Vectors.{vector, IsDirection, IsDirected}
use Rattle.sight_spec.specs.Scene.{Scene, blockers_of_scene}
use Rattle.front_laws.specs.Seen.{Seen, spans, side_of, seen_at}
use Rattle.sight_spec.specs.Isovist.{no_segment}
use Rattle.sweep_laws.specs.Groups.{no_corner}
use Rattle.view_laws.specs.declared.view.Arc.{Arc}
use Rattle.view_laws.specs.Views.{is_in_arc}
use Rattle.round_laws.specs.Kept.{ArePast}
use Rattle.round_laws.specs.Rounds.{AreCoveredIn}
use Rattle.station_laws.specs.Grounds.{HasCornerAt}
use Rattle.sight_sweep.specs.declared.blocker.Blocker.{Blocker}
use Rattle.sight_sweep.specs.Actives.{seen}
use Rattle.sight_sweep.specs.Events.{way_at}
use Rattle.sight_sweep.specs.Tables.{ends_at}

-- ---- flags

-- the flag of the number isn't false; numbers without a flag have none
abbrev pub is_set : List Bool → ℕ → Bool
is_set flags n = get_or flags n true

-- ---- what the round needs

-- a corner stands where the vector leads from p, and is shown
pub record HasShownCorner (p : Point) (corners : List Corner) (shown : ℕ → Bool) (v : Point) : Type 0 where
  pub corner : HasCornerAt p corners v
  pub is_shown : shown corner.number ≡ true

-- what isn't kept is covered, a corner that isn't shown is behind a wall or screen, and what is kept ends at corners
-- that are shown
pub record AreLeftOut (scene : Scene) (p : Point) (arc : Arc) (kept shown : ℕ → Bool) : Type 0 where
  pub covered : AreCoveredIn scene p arc kept
  pub past : (d : Point) → IsDirection d → IsDirected d → is_in_arc arc d ≡ true → ArePast scene p d shown
  pub ends : (n : ℕ) (s : Seen) → n < length (blockers_of_scene scene) → kept n ≡ true
      → seen_at p (blockers_of_scene scene) n ≡ Some s
      → HasShownCorner p scene.corners shown s.from × HasShownCorner p scene.corners shown s.to

-- ---- covers

-- the direction of v spans the cover, and v is strictly behind its line
abbrev pub is_hidden : Seen → Point → Bool
is_hidden cover v = spans v cover && int_lt (side_of cover v) (pos 0)

-- a kept wall or screen hides the point
pub record IsBehind (scene : Scene) (p : Point) (kept : ℕ → Bool) (x : Point) : Type 0 where
  pub number : ℕ
  pub cover : Seen
  pub within : number < length (blockers_of_scene scene)
  pub is_kept : kept number ≡ true
  pub seen : seen_at p (blockers_of_scene scene) number ≡ Some cover
  pub hides : is_hidden cover (vector p x) ≡ true

-- a kept wall or screen hides both ends of the one of the number
pub record IsCoveredWhole (scene : Scene) (p : Point) (kept : ℕ → Bool) (j : ℕ) : Type 0 where
  pub number : ℕ
  pub cover : Seen
  pub within : number < length (blockers_of_scene scene)
  pub is_kept : kept number ≡ true
  pub seen : seen_at p (blockers_of_scene scene) number ≡ Some cover
  pub first : is_hidden cover (vector p (get_or (blockers_of_scene scene) j no_segment).a) ≡ true
  pub last : is_hidden cover (vector p (get_or (blockers_of_scene scene) j no_segment).b) ≡ true

-- each wall or screen that isn't kept has one that covers it whole
abbrev pub AreCoveredWhole : Scene → Point → (ℕ → Bool) → Type 0
AreCoveredWhole scene p kept = (j : ℕ) → j < length (blockers_of_scene scene) → kept j ≡ false
    → IsCoveredWhole scene p kept j

-- the corner is behind a kept wall or screen, and nothing that is kept ends at it
pub record IsUntold (scene : Scene) (p : Point) (kept : ℕ → Bool) (k : ℕ) : Type 0 where
  pub behind : IsBehind scene p kept (get_or scene.corners k no_corner).here
  pub none : (n : ℕ) → n < length (blockers_of_scene scene)
      → ends_at (get_or (blockers_of_scene scene) n no_segment) (get_or scene.corners k no_corner).here ≡ true
      → kept n ≡ false

-- so is each corner that isn't shown
abbrev pub AreUntold : Scene → Point → (ℕ → Bool) → (ℕ → Bool) → Type 0
AreUntold scene p kept shown = (k : ℕ) → k < length scene.corners → shown k ≡ false → IsUntold scene p kept k

-- ---- by flags

-- the cover of the number hides the point
pub record IsHiddenAt (covers : List Blocker) (at : ℕ) (v : Point) : Type 0 where
  pub within : at < length covers
  pub hides : (c : Blocker) → is_hidden (seen (get_or covers at c)) v ≡ true

-- it hides both
pub record AreHiddenAt (covers : List Blocker) (at : ℕ) (v w : Point) : Type 0 where
  pub first : IsHiddenAt covers at v
  pub last : IsHiddenAt covers at w

-- one of the covers hides both ends of the line
pub record IsLineHidden (p : Point) (covers : List Blocker) (line : Segment) : Type 0 where
  pub at : ℕ
  pub hidden : AreHiddenAt covers at (vector p line.a) (vector p line.b)

-- one of the covers hides both ends of each wall or screen whose flag is false
abbrev pub AreLinesHidden : Scene → Point → List Blocker → List Bool → Type 0
AreLinesHidden scene p covers kept = (j : ℕ) → j < length (blockers_of_scene scene) → is_set kept j ≡ false
    → IsLineHidden p covers (get_or (blockers_of_scene scene) j no_segment)

-- the flag of each cover is set
abbrev pub AreCoversKept : List Blocker → List Bool → Type 0
AreCoversKept covers kept = (k : ℕ) (c : Blocker) → k < length covers → is_set kept (get_or covers k c).number ≡ true

-- one of the covers hides the corner, and the flag of each wall and screen that ends there is false
pub record IsCornerHidden (scene : Scene) (p : Point) (covers : List Blocker) (kept : List Bool) (k : ℕ) : Type 0 where
  pub at : ℕ
  pub hidden : IsHiddenAt covers at (way_at p scene.corners k)
  pub none : (n : ℕ) → n < length (blockers_of_scene scene)
      → ends_at (get_or (blockers_of_scene scene) n no_segment) (get_or scene.corners k no_corner).here ≡ true
      → is_set kept n ≡ false

-- so is each corner whose flag is false
abbrev pub AreCornersHidden : Scene → Point → List Blocker → List Bool → List Bool → Type 0
AreCornersHidden scene p covers kept shown = (k : ℕ) → k < length scene.corners → is_set shown k ≡ false
    → IsCornerHidden scene p covers kept k

-- flags of the first so many corners
pub record AreCornerFlags (scene : Scene) (p : Point) (covers : List Blocker) (kept : List Bool) (count : ℕ)
    (shown : List Bool) : Type 0 where
  pub count_is : length shown ≡ count
  pub hidden : AreCornersHidden scene p covers kept shown

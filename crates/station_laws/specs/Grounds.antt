-- What a station stands on: the first corner at it, or else a wall through it, or nothing; and where corners are.
use Rattle.std.specs.Prelude.{ℕ, ◌<◌, ◌≤◌, ◌≡◌, Bool, true, false, List, length}
use Rattle.std.specs.List.{list_any}
use Rattle.std.proofs.Common.{get_or}
use Rattle.plane_spec.specs.declared.Point.{Point}
use Rattle.plane_spec.specs.declared.Segment.{Segment}
use Rattle.plane_spec.specs.declared.Corner.{Corner}
use Rattle.plane_spec.specs.Vectors.{same_point, vector, IsDirected}
use Rattle.sight_spec.specs.Scene.{Scene}
use Rattle.sight_spec.specs.Sight.{is_in_interior}
use Rattle.sight_spec.specs.Isovist.{no_segment}
use Rattle.turn_laws.specs.Places.{place_of}
use Rattle.sweep_laws.specs.Groups.{no_corner}
use Rattle.view_laws.specs.declared.view.Ground.{Ground}
use Rattle.view_laws.specs.declared.view.Ground.TheVariants as grounds

-- the corner is at p
abbrev pub is_at : Point → Corner → Bool
is_at p c = same_point c.here p

-- it is the first of the corners at p
pub record IsFirstCorner (p : Point) (corners : List Corner) (c : Corner) : Type 0 where
  pub number : ℕ
  pub within : number < length corners
  pub corner : get_or corners number no_corner ≡ c
  pub here : is_at p c ≡ true
  pub first : (j : ℕ) → j < number → is_at p (get_or corners j no_corner) ≡ false

-- it is one of the walls, and p is on it, at none of its ends
pub record IsOnWall (p : Point) (walls : List Segment) (w : Segment) : Type 0 where
  pub number : ℕ
  pub within : number < length walls
  pub wall : get_or walls number no_segment ≡ w
  pub on : is_in_interior p w ≡ true

-- no corner is at p
abbrev pub IsAtNoCorner : Point → List Corner → Type 0
IsAtNoCorner p corners = list_any (is_at p) corners ≡ false

-- what a station at p stands on
pub data IsGroundOf (scene : Scene) (p : Point) : Ground → Type 0 where
  at_corner : (c : Corner) → IsFirstCorner p scene.corners c → IsGroundOf scene p (grounds.Corner c)
  on_wall : (w : Segment) → IsAtNoCorner p scene.corners → IsOnWall p scene.walls w
      → IsGroundOf scene p (grounds.Wall w)
  on_nothing : IsAtNoCorner p scene.corners → list_any (is_in_interior p) scene.walls ≡ false
      → IsGroundOf scene p grounds.Free

-- a corner stands where the vector leads from p
pub record HasCornerAt (p : Point) (corners : List Corner) (v : Point) : Type 0 where
  pub number : ℕ
  pub within : number < length corners
  pub there : vector p (get_or corners number no_corner).here ≡ v

-- no corner has a place from low up to high, which isn't with them
abbrev pub IsFreeOfCorners : Point → List Corner → ℕ → ℕ → Type 0
IsFreeOfCorners p corners low high = (k : ℕ) → k < length corners
    → IsDirected (vector p (get_or corners k no_corner).here)
    → low ≤ place_of (vector p (get_or corners k no_corner).here)
    → place_of (vector p (get_or corners k no_corner).here) < high → ⊥

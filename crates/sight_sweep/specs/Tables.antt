-- What a look finds in a scene.
use Rattle.std.specs.Prelude.{ℕ, pos, ◌+◌, ◌*◌, ◌/◌, ◌%◌, ◌+ℤ◌, ◌<◌, ◌≤◌, ◌≡◌, Bool, true, ◌||◌, unsigned_abs, List}
use Rattle.std.specs.Prelude.{length, All}
use Rattle.std.specs.List.{Contains, slice_range}
use Rattle.std.specs.List.Sorted.{IsNonDecreasing}
use Rattle.std.proofs.Common.{get_or}
use Rattle.plane_spec.specs.declared.Point.{Point}
use Rattle.plane_spec.specs.declared.Segment.{Segment}
use Rattle.plane_spec.specs.declared.Corner.{Corner}
use Rattle.plane_spec.specs.Vectors.{same_point}
use Rattle.sight_spec.specs.Scene.{Scene, blockers_of_scene}
use Rattle.sight_core.specs.Scenes.{IsOfSoundPlan}
use Rattle.sight_spec.specs.Isovist.{no_segment}
use Rattle.sweep_laws.specs.Groups.{no_corner}
use Rattle.sight_sweep.specs.declared.range.Range.{Range}

-- ---- which walls and screens end where

-- the wall or screen ends at the point
abbrev pub ends_at : Segment → Point → Bool
ends_at w x = same_point w.a x || same_point w.b x

-- the numbers are those of walls and screens, among them all that end at the point
pub record AreAround (scene : Scene) (x : Point) (numbers : List ℕ) : Type 0 where
  pub within : All (λ n. n < length (blockers_of_scene scene)) numbers
  pub all : (n : ℕ) → n < length (blockers_of_scene scene) → ends_at (get_or (blockers_of_scene scene) n no_segment) x
      ≡ true → Contains numbers n

-- ---- ends as numbers

-- the number of a point in range
unfoldable pub key_of : Point → ℕ
key_of p = unsigned_abs (p.y +ℤ pos 100000) * 200001 + unsigned_abs (p.x +ℤ pos 100000)

-- at the point ends the wall or screen of the number
abbrev pub end_of : Point → ℕ → ℕ
end_of x number = key_of x * 2048 + number

-- the ends are those of walls and screens, among them both of each of the first so many
pub record HasEnds (lines : List Segment) (count : ℕ) (ends : List ℕ) : Type 0 where
  pub within : All (λ e. e % 2048 < length lines) ends
  pub firsts : (k : ℕ) → k < count → Contains ends (end_of (get_or lines k no_segment).a k)
  pub seconds : (k : ℕ) → k < count → Contains ends (end_of (get_or lines k no_segment).b k)

-- all of them, by their points
pub record AreEnds (lines : List Segment) (ends : List ℕ) : Type 0 where
  pub sorted : IsNonDecreasing ends
  pub has : HasEnds lines (length lines) ends

-- ---- ranges of ends

-- no range
abbrev pub no_range : Range
no_range = record { from = 0; upto = 0 }

-- a part of the numbers
pub record IsRangeOf (numbers : List ℕ) (range : Range) : Type 0 where
  pub order : range.from ≤ range.upto
  pub within : range.upto ≤ length numbers

-- a part of the ends, with all that are at the point of the number
pub record IsRangeAt (ends : List ℕ) (key : ℕ) (range : Range) : Type 0 where
  pub order : range.from ≤ range.upto
  pub within : range.upto ≤ length ends
  pub all : (i : ℕ) → i < length ends → get_or ends i 0 / 2048 ≡ key → (range.from ≤ i) × (i < range.upto)

-- so for each of the first so many corners
pub record AreRanges (ends : List ℕ) (corners : List Corner) (count : ℕ) (ranges : List Range) : Type 0 where
  pub count_is : length ranges ≡ count
  pub each : (k : ℕ) → k < count → IsRangeAt ends (key_of (get_or corners k no_corner).here) (get_or ranges k no_range)

-- ---- the table

-- the lines are the scene's walls and screens, and each range has the numbers of those around its corner
pub record IsTable (scene : Scene) (lines : List Segment) (ranges : List Range) (numbers : List ℕ) : Type 0 where
  pub of_plan : IsOfSoundPlan scene
  pub lines_are : lines ≡ blockers_of_scene scene
  pub count : length ranges ≡ length scene.corners
  pub in_order : All (IsRangeOf numbers) ranges
  pub around : (k : ℕ) → k < length scene.corners
      → AreAround scene (get_or scene.corners k no_corner).here
      (slice_range numbers (get_or ranges k no_range).from (get_or ranges k no_range).upto)

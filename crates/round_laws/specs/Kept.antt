-- What is first of the walls and screens that are kept, and when those that are left out don't matter.
use Rattle.std.proofs.Common.{◌≡◌, ◌≢◌, ℕ, ◌<◌, pos, List, length, get_or}
use Rattle.std.specs.Prelude.{true, int_lt, Some, Bool, false, ℕ, ◌<◌, ◌≡◌, ◌≢◌, List, length, Option, None}
use Rattle.plane_spec.specs.Fractions.{is_before}
use Rattle.plane_spec.specs.Vectors.{vector}
use Rattle.plane_spec.specs.declared.Point.{Point}
use Rattle.plane_spec.specs.declared.Segment.{Segment}
use Rattle.sight_spec.specs.Scene.{Scene, blockers_of_scene}
use Rattle.front_laws.specs.Seen.{Seen, spans, side_of, seen_at, hit_of}
use Rattle.sweep_laws.specs.Groups.{stands_in, no_corner}
use Rattle.std.specs.Prelude.{◌/◌, ◌≤◌}
use Rattle.turn_laws.specs.Places.{place_of}
use Rattle.sight_spec.specs.Isovist.{no_segment}

-- it is spanned, and all kept others that are spanned are hit after it; it may itself be one that isn't kept
pub record IsKeptFront (p d : Point) (blockers : List Segment) (kept : ℕ → Bool) (k : ℕ) (s : Seen) : Type 0 where
  pub within : k < length blockers
  pub seen : seen_at p blockers k ≡ Some s
  pub spanned : spans d s ≡ true
  pub nearest : (j : ℕ) (t : Seen) → j < length blockers → kept j ≡ true → j ≢ k → seen_at p blockers j ≡ Some t
      → spans d t ≡ true → is_before (hit_of d s) (hit_of d t) ≡ true

-- none of the kept ones is spanned
pub record IsKeptBare (p d : Point) (blockers : List Segment) (kept : ℕ → Bool) : Type 0 where
  pub none : (j : ℕ) (t : Seen) → j < length blockers → kept j ≡ true → seen_at p blockers j ≡ Some t → spans d t
      ≡ false

-- the first of the kept ones, or none
abbrev pub IsKeptFirst : Point → Point → List Segment → (ℕ → Bool) → Option (ℕ × Seen) → Type 0
IsKeptFirst p d blockers kept None = IsKeptBare p d blockers kept
IsKeptFirst p d blockers kept (Some first) = IsKeptFront p d blockers kept first.0 first.1

-- a kept one is spanned, and hit before t
pub record IsCovered (p d : Point) (blockers : List Segment) (kept : ℕ → Bool) (t : Seen) : Type 0 where
  pub number : ℕ
  pub cover : Seen
  pub within : number < length blockers
  pub is_kept : kept number ≡ true
  pub seen : seen_at p blockers number ≡ Some cover
  pub spanned : spans d cover ≡ true
  pub before : is_before (hit_of d cover) (hit_of d t) ≡ true

-- each that is left out and spanned has a kept one before it
abbrev pub AreCovered : Point → Point → List Segment → (ℕ → Bool) → Type 0
AreCovered p d blockers kept = (j : ℕ) (t : Seen) → j < length blockers → kept j ≡ false → seen_at p blockers j
    ≡ Some t → spans d t ≡ true → IsCovered p d blockers kept t

-- a wall that the direction spans has the corner behind it
pub record IsPastOne (p d : Point) (blockers : List Segment) (v : Point) : Type 0 where
  pub number : ℕ
  pub cover : Seen
  pub within : number < length blockers
  pub seen : seen_at p blockers number ≡ Some cover
  pub spanned : spans d cover ≡ true
  pub past : int_lt (side_of cover v) (pos 0) ≡ true

-- in direction d each corner that isn't kept is behind a wall that the direction spans
abbrev pub ArePast : Scene → Point → Point → (ℕ → Bool) → Type 0
ArePast scene p d kept = (j : ℕ) → j < length scene.corners → kept j ≡ false
    → stands_in p d (get_or scene.corners j no_corner).here ≡ true
    → IsPastOne p d (blockers_of_scene scene) (vector p (get_or scene.corners j no_corner).here)

-- ---- bodies that are hidden, by bins

-- the bin of a place: 2^34 places have one
abbrev pub bin_of : ℕ → ℕ
bin_of place = place / 17179869184

-- a kept wall or screen begins in a bin below and ends in one above, and has all points of the body strictly behind it
pub record IsBinCovered (p : Point) (blockers : List Segment) (kept : ℕ → Bool) (has : Point → Bool) (bin : ℕ)
    : Type 0 where
  pub number : ℕ
  pub cover : Seen
  pub within : number < length blockers
  pub is_kept : kept number ≡ true
  pub seen : seen_at p blockers number ≡ Some cover
  pub starts : bin_of (place_of cover.from) < bin
  pub ends : bin < bin_of (place_of cover.to)
  pub behind : (x : Point) → has x ≡ true → int_lt (side_of cover (vector p x)) (pos 0) ≡ true

-- each bin from low to high is covered so
abbrev pub AreBinsCovered : Point → List Segment → (ℕ → Bool) → (Point → Bool) → ℕ → ℕ → Type 0
AreBinsCovered p blockers kept has low high =
    (bin : ℕ) → low ≤ bin → bin ≤ high → IsBinCovered p blockers kept has bin

-- the wall or screen of the number joins points of a body whose bins are covered, without passing (1,0)
pub record IsHiddenWall (p : Point) (blockers : List Segment) (kept : ℕ → Bool) (j : ℕ) (t : Seen) : Type 0 where
  pub has : Point → Bool
  pub low : ℕ
  pub high : ℕ
  pub covers : AreBinsCovered p blockers kept has low high
  pub first : has (get_or blockers j no_segment).a ≡ true
  pub last : has (get_or blockers j no_segment).b ≡ true
  pub in_turn : place_of t.from < place_of t.to
  pub from_low : low ≤ bin_of (place_of t.from)
  pub to_high : bin_of (place_of t.to) ≤ high

-- x is a point of such a body
pub record IsHiddenPoint (p : Point) (blockers : List Segment) (kept : ℕ → Bool) (x : Point) : Type 0 where
  pub has : Point → Bool
  pub low : ℕ
  pub high : ℕ
  pub covers : AreBinsCovered p blockers kept has low high
  pub own : has x ≡ true
  pub from_low : low ≤ bin_of (place_of (vector p x))
  pub to_high : bin_of (place_of (vector p x)) ≤ high

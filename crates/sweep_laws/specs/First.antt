-- The first of the walls and screens that a direction spans.
use Rattle.std.proofs.Common.{◌≡◌, ◌≢◌, ℕ, ◌<◌, List, length}
use Rattle.std.specs.Prelude.{true, Some, ◌≡◌, ℕ, Option, None, ◌<◌, ◌≢◌, List, length, false}
use Rattle.plane_spec.specs.Fractions.{is_before}
use Rattle.plane_spec.specs.declared.Point.{Point}
use Rattle.plane_spec.specs.declared.Segment.{Segment}
use Rattle.sight_spec.specs.Scene.{Scene, blockers_of_scene}
use Rattle.front_laws.specs.Seen.{Seen, spans, are_apart, seen_at, hit_of}

-- the one of number k is spanned, and all others that are spanned are hit after it
pub record IsFront (p d : Point) (blockers : List Segment) (k : ℕ) (s : Seen) : Type 0 where
  pub within : k < length blockers
  pub seen : seen_at p blockers k ≡ Some s
  pub spanned : spans d s ≡ true
  pub nearest : (j : ℕ) (t : Seen) → j < length blockers → j ≢ k → seen_at p blockers j ≡ Some t → spans d t ≡ true
      → is_before (hit_of d s) (hit_of d t) ≡ true

-- none is spanned
pub record IsBare (p d : Point) (blockers : List Segment) : Type 0 where
  pub none : (j : ℕ) (t : Seen) → j < length blockers → seen_at p blockers j ≡ Some t → spans d t ≡ false

-- two different walls or screens that d spans are apart
abbrev pub AreAllApart : Point → Point → List Segment → Type 0
AreAllApart p d blockers = (i j : ℕ) (s t : Seen) → i ≢ j → i < length blockers → j < length blockers
    → seen_at p blockers i ≡ Some s → seen_at p blockers j ≡ Some t → spans d s ≡ true → spans d t ≡ true
    → are_apart s t ≡ true

-- the first blocker that is spanned, with its number, or none
abbrev pub IsFirst : Scene → Point → Point → Option (ℕ × Seen) → Type 0
IsFirst scene p d None = IsBare p d (blockers_of_scene scene)
IsFirst scene p d (Some first) = IsFront p d (blockers_of_scene scene) first.0 first.1

-- how the first is seen, if there is one
abbrev pub seen_first : Option (ℕ × Seen) → Option Seen
seen_first None = None
seen_first (Some first) = Some first.1

-- its number
abbrev pub number_of : Option (ℕ × Seen) → Option ℕ
number_of None = None
number_of (Some first) = Some first.0

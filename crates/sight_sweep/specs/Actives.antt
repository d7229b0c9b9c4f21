-- The list of walls and screens that the round holds, as the laws see it.
use Rattle.std.specs.Prelude.{ℕ, ◌<◌, ◌==◌, ◌≡◌, Bool, true, ◌&&◌, ◌||◌, not, List, [], ◌∷◌, map, length, Option, Some}
use Rattle.std.specs.Prelude.{None, All}
use Rattle.plane_spec.specs.declared.Point.{Point}
use Rattle.plane_spec.specs.Vectors.{same_point}
use Rattle.sight_spec.specs.Scene.{Scene, blockers_of_scene}
use Rattle.front_laws.specs.Seen.{Seen, spans}
use Rattle.front_laws.specs.Seen.{seen_at}
use Rattle.view_laws.specs.declared.view.Front.{Front}
use Rattle.sweep_laws.specs.Parts.{hides_itself}
use Rattle.round_laws.specs.Rounds.{Numbered, Holds}
use Rattle.sight_sweep.specs.declared.blocker.Blocker.{Blocker}

-- by the vectors to its ends
abbrev pub seen : Blocker → Seen
seen b = record { from = b.from; to = b.to }

-- as it is told where it is seen first
abbrev pub front : Blocker → Front
front b = record { edge = b.edge; spread = b.spread; number = b.number; hides = b.hides }

-- with its number
abbrev pub numbered : Blocker → Numbered
numbered b = (b.number, seen b)

-- it is the scene's wall or screen of its number
pub record IsOf (scene : Scene) (p : Point) (b : Blocker) : Type 0 where
  pub within : b.number < length (blockers_of_scene scene)
  pub known : seen_at p (blockers_of_scene scene) b.number ≡ Some (seen b)
  pub hides : b.hides ≡ hides_itself p scene.walls b.number

-- the list holds, from the station outwards, of the kept walls and screens those that pass the test
pub record IsActive (scene : Scene) (p : Point) (kept : ℕ → Bool) (test : ℕ → Seen → Bool)
    (active : List Blocker) : Type 0 where
  pub held : Holds p (blockers_of_scene scene) kept test (map numbered active)
  pub known : All (IsOf scene p) active

-- what passes the test, but for the one of the number
abbrev pub without : ℕ → (ℕ → Seen → Bool) → ℕ → Seen → Bool
without number test n s = test n s && not (number == n)

-- what passes the test, and the one of the number
abbrev pub beside : ℕ → (ℕ → Seen → Bool) → ℕ → Seen → Bool
beside number test n s = test n s || (number == n)

-- what passes the test and doesn't end at v
abbrev pub unless_ended : Point → (ℕ → Seen → Bool) → ℕ → Seen → Bool
unless_ended v test n s = test n s && not (same_point s.to v)

-- what passes the test or begins at v
abbrev pub or_begun : Point → (ℕ → Seen → Bool) → ℕ → Seen → Bool
or_begun v test n s = test n s || same_point s.from v

-- the direction spans each kept wall and screen that passes the test
abbrev pub SpansAll : Scene → Point → (ℕ → Bool) → (ℕ → Seen → Bool) → Point → Type 0
SpansAll scene p kept test way =
    (n : ℕ) (s : Seen) → n < length (blockers_of_scene scene) → kept n ≡ true → seen_at p (blockers_of_scene scene) n
    ≡ Some s → test n s ≡ true → spans way s ≡ true

-- what the round has first
abbrev pub first_of : List Blocker → Option Blocker
first_of [] = None
first_of (b ∷ rest) = Some b

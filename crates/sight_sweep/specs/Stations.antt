-- What is so of a station in a sound plan.
use Rattle.std.specs.Prelude.{ℕ, ◌<◌, ◌≤◌, ◌≡◌, length, Some}
use Rattle.plane_spec.specs.declared.Point.{Point}
use Rattle.plane_spec.specs.Vectors.{IsDirection}
use Rattle.sight_spec.specs.Scene.{Scene, blockers_of_scene}
use Rattle.front_laws.specs.Seen.{Seen, seen_at}
use Rattle.round_laws.specs.Rounds.{AreWalls}
use Rattle.station_laws.specs.Grounds.{HasCornerAt}
use Rattle.sight_sweep.specs.Events.{way_at}

-- its walls and screens are blockers, at both ends of each is a corner, and each corner is in a direction of a plan
pub record IsStation (scene : Scene) (p : Point) : Type 0 where
  pub walls : AreWalls scene p
  pub corners : (n : ℕ) (s : Seen) → n < length (blockers_of_scene scene) → seen_at p (blockers_of_scene scene) n
      ≡ Some s
      → HasCornerAt p scene.corners s.from × HasCornerAt p scene.corners s.to
  pub few : length scene.corners ≤ 1024
  pub ways : (k : ℕ) → k < length scene.corners → IsDirection (way_at p scene.corners k)

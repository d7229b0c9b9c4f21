-- Where the ways of a view's sectors lead.
use Rattle.std.specs.Prelude.{ℕ, ◌≡◌, ◌<◌, length}
use Rattle.plane_spec.specs.declared.Point.{Point}
use Rattle.plane_spec.specs.Vectors.{IsDirected}
use Rattle.sight_spec.specs.Scene.{Scene}
use Rattle.view_laws.specs.declared.view.Sector.{Sector}
use Rattle.sight_sweep.specs.Events.{way_at}

-- the sector's way is the vector to a corner elsewhere
pub record IsToCorner (scene : Scene) (p : Point) (s : Sector) : Type 0 where
  pub at : ℕ
  pub within : at < length scene.corners
  pub way : s.way ≡ way_at p scene.corners at
  pub directed : IsDirected s.way

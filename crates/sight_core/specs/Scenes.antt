-- Scenes that are seen.
use Rattle.std.specs.Prelude.{◌≡◌, IsTrue}
use Rattle.plan_spec.specs.Plan.{Plan}
use Rattle.plan_spec.specs.Accepted.{is_sound}
use Rattle.sight_spec.specs.Scene.{Scene, scene_of}

-- the scene is that of some accepted plan
pub record IsOfSoundPlan (scene : Scene) : Type 0 where
  pub plan : Plan
  pub sound : IsTrue (is_sound plan)
  pub seen : scene ≡ scene_of plan

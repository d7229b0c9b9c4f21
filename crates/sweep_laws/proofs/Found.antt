-- All walls and screens of a sound plan are apart.
use Rattle.std.proofs.Common.{◌≡◌, ◌≢◌, ℕ, ◌<◌, ◌≤◌, arith}
use Rattle.std.specs.Prelude.{true}
use Rattle.plan_spec.specs.Accepted.{is_sound}
use Rattle.plan_spec.specs.Plan.{Plan}
use Rattle.plane_spec.specs.declared.Point.{Point}
use Rattle.sight_spec.specs.Scene.{scene_of, blockers_of_scene}
use Rattle.apart_laws.proofs.Plans.{blockers_apart}
use Rattle.front_laws.proofs.Tests.{by_lt}
use Rattle.sweep_laws.specs.First.{AreAllApart}

-- as they are in an accepted plan
pub all_apart : (plan : Plan) (p d : Point) → is_sound plan ≡ true → AreAllApart p d (blockers_of_scene (scene_of plan))
all_apart plan p d sound i j s t other i_in j_in s_is t_is s_spans t_spans =
    by_lt i j
    (λ lt. (blockers_apart plan p d i j s t sound lt j_in s_is t_is s_spans t_spans).first)
    (λ le. (blockers_apart plan p d j i t s sound (below i j le other) i_in t_is s_is t_spans s_spans).second)
  where
    below : (i j : ℕ) → j ≤ i → i ≢ j → j < i
    below i j h k = by_lt j i (λ lt. lt) (λ ge. absurd (k (omega (arith, h, ge))))

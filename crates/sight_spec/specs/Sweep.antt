-- What is asked of a point from which one looks all round, and what is answered.
use Rattle.std.specs.Prelude.{Bool, List, map}
use Rattle.plane_spec.specs.declared.Point.{Point}
use Rattle.sight_spec.specs.declared.target.Target.{Target}
use Rattle.sight_spec.specs.declared.target.Target.TheVariants.{Point as ToPoint, Ray as AlongRay}
use Rattle.sight_spec.specs.Scene.{Scene}
use Rattle.sight_spec.specs.Sight.{are_in_sight}
use Rattle.sight_spec.specs.Stops.{RayHit, ray_hit}

-- a point is seen or not; a ray is stopped and meets a wall or screen, or not
pub data TargetAnswer : Type 0 where
  Seen : Bool → TargetAnswer
  Reach : RayHit → TargetAnswer

-- the answer to one target
abbrev pub answer_to : Scene → Point → Target → TargetAnswer
answer_to scene p (ToPoint q) = Seen (are_in_sight scene p q)
answer_to scene p (AlongRay d) = Reach (ray_hit scene p d)

-- one answer for each target, in their order
abbrev pub answers_to : Scene → Point → List Target → List TargetAnswer
answers_to scene p targets = map (answer_to scene p) targets

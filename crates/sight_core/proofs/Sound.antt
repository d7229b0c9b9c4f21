-- The points of a sound plan are in range, part by part.
use Rattle.std.proofs.Common.{◌<◌, ℕ, [], length}
use Rattle.std.specs.Prelude.{All, IsTrue}
use Rattle.std.proofs.lemmas.List.Elements.{All-weaker}
use Rattle.plane_spec.specs.Vectors.{InRange}
use Rattle.plan_spec.specs.declared.item.Screen.{Screen}
use Rattle.plan_spec.specs.Plan.{Obstacle, Plan, obstacle}
use Rattle.plan_spec.specs.Accepted.{is_sound}
use Rattle.plan_spec.specs.Ranges.{IsProperSegmentInRange}
use Rattle.plan_laws.proofs.Ranges as ranges
use Rattle.plan_check.specs.Kept.{obstacle_at}

-- a screen between points in range
pub record IsScreenInRange (s : Screen) : Type 0 where
  pub from : InRange s.from
  pub to : InRange s.to

-- an obstacle whose points are in range
pub record IsObstacleInRange (o : Obstacle) : Type 0 where
  pub points : All InRange o.points

pub outer_in_range : (plan : Plan) → IsTrue (is_sound plan) → All InRange plan.outer
outer_in_range plan sound = ranges.outer_in_range plan sound

pub obstacles_in_range : (plan : Plan) → IsTrue (is_sound plan) → All IsObstacleInRange plan.obstacles
obstacles_in_range plan sound = λ k d h. record { points = ranges.obstacles_in_range plan sound k d h }

pub screens_in_range : (plan : Plan) → IsTrue (is_sound plan) → All IsScreenInRange plan.screens
screens_in_range plan sound =
    All-weaker (λ s. IsProperSegmentInRange s.from s.to) IsScreenInRange (λ s h. record { from = h.from_in; to = h.to_in }) plan.screens (ranges.sound_screens plan sound)

-- the k-th obstacle, as the plan gives it
pub obstacle_in_range : (plan : Plan) (k : ℕ) → IsTrue (is_sound plan) → k < length plan.obstacles → All InRange (obstacle_at plan k).points
obstacle_in_range plan k sound h = ranges.obstacles_in_range plan sound k (obstacle [] []) h

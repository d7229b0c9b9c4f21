-- What a sweep answers.
use Rattle.std.specs.Prelude.{◌≡◌, false}
use Rattle.plane_spec.specs.declared.Point as points
use Rattle.plane_spec.specs.Vectors.{vector, same_point, InRange, IsDirection, IsDirected}
use Rattle.sight_spec.specs.Scene.{Scene}
use Rattle.sight_spec.specs.declared.target.Target.{Target}
use Rattle.sight_spec.specs.declared.target.Target.TheVariants as targets
use Rattle.sight_spec.specs.Sweep.{TargetAnswer, Seen, Reach}
use Rattle.view_laws.specs.declared.view.Arc.{Arc}
use Rattle.view_laws.specs.declared.view.View.{View}
use Rattle.view_laws.specs.Views.{IsViewOf}
use Rattle.station_laws.specs.Grounds.{IsGroundOf}
use Rattle.sight_sweep.specs.declared.answers.Answer.{Answer}
use Rattle.sight_sweep.specs.declared.answers.Answer.TheVariants as answers

-- the answer as it is defined
abbrev pub value_of : Answer → TargetAnswer
value_of (answers.Seen seen) = Seen seen
value_of (answers.Reach stop wall) = Reach (record { stop = stop; wall = wall })

-- the answer as it is given
abbrev pub given : TargetAnswer → Answer
given (Seen seen) = answers.Seen seen
given (Reach hit) = answers.Reach hit.stop hit.wall

-- a point to see is in range and isn't p itself
pub record IsOther (p q : points.Point) : Type 0 where
  pub in_range : InRange q
  pub other : same_point p q ≡ false

-- a ray leads somewhere
pub record IsRay (d : points.Point) : Type 0 where
  pub direction : IsDirection d
  pub directed : IsDirected d

-- it can be asked for from p
abbrev pub MayBeAsked : points.Point → Target → Type 0
MayBeAsked p (targets.Point q) = IsOther p q
MayBeAsked p (targets.Ray d) = IsRay d

-- the direction in which it is
abbrev pub way_of : points.Point → Target → points.Point
way_of p (targets.Point q) = vector p q
way_of p (targets.Ray d) = d

-- the view is what is seen from p, and tells what p stands on
pub record IsSeenFrom (scene : Scene) (p : points.Point) (arc : Arc) (view : View) : Type 0 where
  pub is_view : IsViewOf scene p arc view
  pub ground : IsGroundOf scene p view.ground

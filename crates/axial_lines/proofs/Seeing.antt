-- What a view answers for a ray is where the ray is stopped, and that is small.
use Rattle.std.proofs.Common.{◌≡◌, ◌∙◌, ℕ, true, false, refl, sym, ap}
use Rattle.std.specs.Prelude.{Option, Some, None, IfSome}
use Rattle.exact_geom.specs.Parts.{HasStopParts}
use Rattle.plane_spec.specs.declared.Point.{Point}
use Rattle.plane_spec.specs.Fractions.{Fraction}
use Rattle.plane_spec.specs.Vectors.{InRange, IsDirection, same_point}
use Rattle.sight_core.specs.Scenes.{IsOfSoundPlan}
use Rattle.sight_core.proofs.StopBounds.{stop_is_small}
use Rattle.sight_spec.specs.declared.target.Target.TheVariants as targets
use Rattle.sight_spec.specs.Scene.{Scene}
use Rattle.sight_spec.specs.Sight.{are_in_sight}
use Rattle.sight_spec.specs.Stops.{stop_of}
use Rattle.sight_spec.specs.Sweep.{answer_to}
use Rattle.sight_sweep.specs.Answers.{given}
use Rattle.sight_sweep.specs.declared.answers.Answer.{Answer}
use Rattle.sight_sweep.specs.declared.answers.Answer.TheVariants as answers

-- no point sees itself
pub not_itself : (scene : Scene) (p q : Point) → same_point p q ≡ true → false ≡ are_in_sight scene p q
unfolding are_in_sight
not_itself scene p q e = rw e refl

-- the stop in an answer
abbrev stop_in : Answer → Option Fraction
stop_in (answers.Seen seen) = None
stop_in (answers.Reach stop wall) = stop

-- what is answered for a ray
pub stop_told : (scene : Scene) (p d : Point) (answer : Answer) (stop : Option Fraction) (wall : Option ℕ)
    → answer ≡ answers.Reach stop wall → answer ≡ given (answer_to scene p (targets.Ray d)) → stop ≡ stop_of scene p d
stop_told scene p d answer stop wall is told = ap stop_in (sym is ∙ told)

-- has small parts
pub stop_bounded : (scene : Scene) (p d : Point) (found : Option Fraction) → IsOfSoundPlan scene → InRange p
    → IsDirection d → found ≡ stop_of scene p d → IfSome found HasStopParts
stop_bounded scene p d None of_plan p_in d_in e = tt
stop_bounded scene p d (Some t) of_plan p_in d_in e = stop_is_small scene p d t of_plan p_in d_in (sym e)

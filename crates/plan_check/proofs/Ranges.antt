-- The parts of a sound plan are in range, one after the other.
use Rattle.std.specs.Prelude.{◌≡◌, ℕ, ◌<◌, IsTrue, List, ◌∷◌, drop, length}
use Rattle.std.specs.List.{All}
use Rattle.std.proofs.Common.{ap, add-zero, arith, get_or, subst, sym}
use Rattle.std.proofs.lemmas.List.{get_or-drop, length-drop}
use Rattle.plane_spec.specs.declared.Point.{Point}
use Rattle.plane_spec.specs.Vectors.{InRange}
use Rattle.plan_spec.specs.declared.item.Screen.{Screen}
use Rattle.plan_spec.specs.declared.item.Route.{Route}
use Rattle.plan_spec.specs.Plan.{Obstacle, Plan}
use Rattle.plan_spec.specs.Accepted.{is_sound}
use Rattle.plan_spec.specs.Ranges.{IsProperSegmentInRange, IsPolygonInRange}
use Rattle.plan_laws.proofs.Ranges.{sound_obstacles, sound_screens, sound_routes}

-- what holds of all elements holds of the next
pub next_of_all : {X : Type 0} (P : X → Type 0) (xs : List X) (k : ℕ) (x : X) (rest : List X) → drop k xs ≡ x ∷ rest → All P xs → P x
next_of_all P xs k x rest next all =
    let within : k < length xs = omega (arith, length-drop k xs, ap length next) in
    let at : get_or xs k x ≡ x = (rw (add-zero, next) at (sym (get_or-drop k xs 0 x))) in
    subst P at (all k x within)

pub next_obstacle_in : (plan : Plan) (k : ℕ) (o : Obstacle) (rest : List Obstacle) (points : List Point)
    → IsTrue (is_sound plan) → drop k plan.obstacles ≡ o ∷ rest → points ≡ o.points → All InRange points
next_obstacle_in plan k o rest points sound next same =
    subst (All InRange) (sym same) (next_of_all (λ o. IsPolygonInRange o.points) plan.obstacles k o rest next (sound_obstacles plan sound)).in_range

pub next_screen_in : (plan : Plan) (k : ℕ) (s : Screen) (rest : List Screen) → IsTrue (is_sound plan) → drop k plan.screens ≡ s ∷ rest → IsProperSegmentInRange s.from s.to
next_screen_in plan k s rest sound next = next_of_all (λ s. IsProperSegmentInRange s.from s.to) plan.screens k s rest next (sound_screens plan sound)

pub next_route_in : (plan : Plan) (k : ℕ) (r : Route) (rest : List Route) → IsTrue (is_sound plan) → drop k plan.routes ≡ r ∷ rest → IsProperSegmentInRange r.from r.to
next_route_in plan k r rest sound next = next_of_all (λ r. IsProperSegmentInRange r.from r.to) plan.routes k r rest next (sound_routes plan sound)

-- What a view answers for a target.
use Rattle.std.proofs.Common.{◌≡◌, ℕ, ap, refl, sym, ◌∙◌, subst, List, [], ◌∷◌}
use Rattle.std.proofs.Common.{map}
use Rattle.std.specs.Prelude.{Bool, true, Option, All, Result, Ok, Err, IfOk, Vec}
use Rattle.std.proofs.Common.{Global}
use Rattle.std.specs.Option.{option_map}
use Rattle.plane_spec.specs.declared.Point.{Point}
use Rattle.plane_spec.specs.Vectors.{vector, is_upper, InRange, IsDirection, IsDirected}
use Rattle.plane_spec.specs.Fractions.{Fraction, reduced}
use Rattle.sight_spec.specs.declared.target.Target.{Target}
use Rattle.sight_spec.specs.declared.target.Target.TheVariants as sought
use Rattle.sight_spec.specs.Scene.{Scene}
use Rattle.sight_spec.specs.Sight.{are_in_sight}
use Rattle.sight_spec.specs.Stops.{stop_of, near_wall_of}
use Rattle.sight_spec.specs.Sweep.{TargetAnswer, Seen, Reach, answer_to, answers_to}
use Rattle.sight_core.specs.Scenes.{IsOfSoundPlan}
use Rattle.turn_laws.specs.Places.{place_of}
use Rattle.view_laws.specs.declared.view.Arc.{Arc}
use Rattle.view_laws.specs.declared.view.Arc.TheVariants as arcs
use Rattle.view_laws.specs.declared.view.View.{View}
use Rattle.view_laws.specs.Views.{is_in_arc, is_led_into, is_seen_by, stop_by, number_by, radial_of, radial_by}
use Rattle.view_laws.specs.Views.{IsRadial, IsViewOf}
use Rattle.view_laws.proofs.Cursor.{sight_by_view, stop_by_view, near_wall_by_view}
use Rattle.sight_sweep.specs.declared.answers.Answer.{Answer}
use Rattle.sight_sweep.specs.declared.answers.Answer.TheVariants as replies
use Rattle.sight_sweep.specs.declared.told.Told.{Told}
use Rattle.sight_sweep.specs.Answers.{given, value_of, way_of, IsOther, MayBeAsked}
use Rattle.sight_sweep.specs.Told.{radial, IsTold}
use Rattle.sight_sweep.proofs.Telling.{told_is}

-- ---- one target

-- d is a direction of the arc, and what is told of it is what the view says
pub record IsAsked (arc : Arc) (view : View) (d : Point) (begins : Bool) (told : Told) : Type 0 where
  pub direction : IsDirection d
  pub directed : IsDirected d
  pub in_arc : is_in_arc arc d ≡ true
  pub begins_is : begins ≡ is_led_into view.ground d
  pub told_is : radial told ≡ radial_of view d

pub sight_answer : (scene : Scene) (p q : Point) (arc : Arc) (view : View) (begins : Bool) (told : Told) (r : Bool)
    → IsViewOf scene p arc view → IsOther p q → IsAsked arc view (vector p q) begins told
    → r ≡ is_seen_by begins (radial told) (vector p q) → r ≡ are_in_sight scene p q
sight_answer scene p q arc view begins told r v other a is =
    is ∙ ap (λ b. is_seen_by b (radial told) (vector p q)) a.begins_is
    ∙ ap (λ t. is_seen_by (is_led_into view.ground (vector p q)) t (vector p q)) a.told_is
    ∙ sym (sight_by_view scene p q arc view v other.other a.direction a.directed a.in_arc)

pub stop_answer : (scene : Scene) (p d : Point) (arc : Arc) (view : View) (begins : Bool) (told : Told)
    (t : Option Fraction)
    → IsViewOf scene p arc view → IsAsked arc view d begins told
    → t ≡ option_map reduced (stop_by begins (radial told) d) → t ≡ stop_of scene p d
stop_answer scene p d arc view begins told t v a is =
    is ∙ ap (λ b. option_map reduced (stop_by b (radial told) d)) a.begins_is
    ∙ ap (λ u. option_map reduced (stop_by (is_led_into view.ground d) u d)) a.told_is
    ∙ sym (stop_by_view scene p d arc view v a.direction a.directed a.in_arc)

pub number_answer : (scene : Scene) (p d : Point) (arc : Arc) (view : View) (begins : Bool) (told : Told) (n : Option ℕ)
    → IsViewOf scene p arc view → IsAsked arc view d begins told
    → n ≡ number_by told.front → n ≡ near_wall_of scene p d
number_answer scene p d arc view begins told n v a is =
    is ∙ ap (λ u. number_by u.front) a.told_is
    ∙ sym (near_wall_by_view scene p d arc view v a.direction a.directed a.in_arc)

-- what is answered for a point
pub point_given : (scene : Scene) (p q d : Point) (target : Target) (arc : Arc) (view : View) (begins : Bool)
    (told : Told) (r : Bool)
    → IsViewOf scene p arc view → MayBeAsked p target → target ≡ sought.Point q → d ≡ way_of p target
    → IsAsked arc view d begins told
    → r ≡ is_seen_by begins (radial told) d → replies.Seen r ≡ given (answer_to scene p target)
point_given scene p q d target arc view begins told r v may e d_is a is =
    let at : d ≡ vector p q = d_is ∙ ap (way_of p) e in
    let other : IsOther p q = subst (MayBeAsked p) e may in
    ap replies.Seen (sight_answer scene p q arc view begins told r v other
    (subst (λ w. IsAsked arc view w begins told) at a) (subst (λ w. r ≡ is_seen_by begins (radial told) w) at is))
    ∙ ap (λ t. given (answer_to scene p t)) (sym e)

-- what is answered for a ray
pub ray_given : (scene : Scene) (p q d : Point) (target : Target) (arc : Arc) (view : View) (begins : Bool)
    (told : Told) (t : Option Fraction) (n : Option ℕ)
    → IsViewOf scene p arc view → target ≡ sought.Ray q → d ≡ way_of p target → IsAsked arc view d begins told
    → t ≡ option_map reduced (stop_by begins (radial told) d) → n ≡ number_by told.front → replies.Reach t n
    ≡ given (answer_to scene p target)
ray_given scene p q d target arc view begins told t n v e d_is a t_is n_is =
    let at : d ≡ q = d_is ∙ ap (way_of p) e in
    ap (λ u. replies.Reach u n) (stop_answer scene p d arc view begins told t v a t_is)
    ∙ ap (replies.Reach (stop_of scene p d)) (number_answer scene p d arc view begins told n v a n_is)
    ∙ ap (λ w. replies.Reach (stop_of scene p w) (near_wall_of scene p w)) at
    ∙ ap (λ u. given (answer_to scene p u)) (sym e)

-- what is told of the target's direction is small
pub told_small : (scene : Scene) (p d : Point) (arc : Arc) (view : View) (place : ℕ) (told : Told)
    → IsOfSoundPlan scene → InRange p → IsViewOf scene p arc view
    → IsDirection d → IsDirected d → is_in_arc arc d ≡ true → place ≡ place_of d → radial told
    ≡ radial_by view.before view.sectors.items place → IsTold d told
told_small scene p d arc view place told of p_in v d_in d_some within place_is told_is_so =
    told_is scene p d told of p_in
    (subst (IsRadial scene p d) (sym (told_is_so ∙ ap (radial_by view.before view.sectors.items) place_is))
    (v.tells d d_in d_some within))

-- ---- all targets

value_of_given : (a : TargetAnswer) → value_of (given a) ≡ a
value_of_given (Seen seen) = refl
value_of_given (Reach hit) = refl

all_given : (scene : Scene) (p : Point) (targets : List Target)
    → map value_of (map (λ t. given (answer_to scene p t)) targets) ≡ answers_to scene p targets
all_given scene p [] = refl
all_given scene p (t ∷ rest) =
    ap (λ a. a ∷ map value_of (map (λ t. given (answer_to scene p t)) rest)) (value_of_given (answer_to scene p t))
    ∙ ap (λ u. answer_to scene p t ∷ u) (all_given scene p rest)

-- what is given for all, as it is defined
pub given_values : {E : Type 0} (scene : Scene) (p : Point) (targets : List Target) (r : Result (Vec Answer Global) E)
    → IfOk r (λ answers. answers.items ≡ map (λ t. given (answer_to scene p t)) targets)
    → IfOk r (λ answers. map value_of answers.items ≡ answers_to scene p targets)
given_values scene p targets (Ok answers) h = ap (map value_of) h ∙ all_given scene p targets
given_values scene p targets (Err e) h = h

-- ---- the arc

pub in_whole : (p : Point) (targets : List Target) → All (λ t. is_in_arc arcs.All (way_of p t) ≡ true) targets
unfolding is_in_arc
in_whole p targets k d lt = refl

pub in_later : (p : Point) (targets : List Target) → All (λ t. is_upper (way_of p t) ≡ true) targets
    → All (λ t. is_in_arc arcs.Later (way_of p t) ≡ true) targets
unfolding is_in_arc
in_later p targets all k d lt = all k d lt

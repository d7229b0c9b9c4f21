-- One more item of any kind, and what follows where it is refused and where it isn't.
use Rattle.std.specs.Prelude.{◌≡◌, ℕ, Bool, true, false, ◌&&◌, List, Option, Some, None, is_none}
use Rattle.std.proofs.Common.{refl, ◌∙◌, arith}
use Rattle.plane_spec.specs.declared.Point.{Point}
use Rattle.plan_spec.specs.declared.item.GridSpec.{GridSpec}
use Rattle.plan_spec.specs.declared.item.Item.{Item}
use Rattle.plan_spec.specs.declared.item.Item.TheVariants.{Grid, Outer, Obstacle as ObstacleItem, Screen as ScreenItem, Route as RouteItem}
use Rattle.plan_spec.specs.declared.why.Why.{Why}
use Rattle.plan_spec.specs.Plan.{Plan, empty_plan, with_item}
use Rattle.plan_spec.specs.Refusals.{why_not_item, why_not_outer, why_not_grid, why_not_obstacle, why_not_screen, why_not_route}
use Rattle.plan_spec.specs.Accepted.{may_follow, is_sound}
use Rattle.plan_laws.proofs.Adding.Causes.{none_refuses, none_when, no_outer_no_sound}
use Rattle.plan_laws.proofs.Adding.Obstacles.{sound_with_obstacle}
use Rattle.plan_laws.proofs.Adding.Screens.{sound_with_screen}
use Rattle.plan_laws.proofs.Adding.Routes.{sound_with_route}
use Rattle.plan_laws.proofs.Adding.Grids.{sound_with_grid}
use Rattle.plan_laws.proofs.Adding.Outers.{sound_with_outer}

refused_outer : (p : Plan) (points : List Point) → false ≡ (is_sound p && is_none (why_not_outer p points))
unfolding why_not_outer
refused_outer p points = rw (none_refuses, none_when, no_outer_no_sound)

-- an item may follow and leaves a sound plan exactly where the plan is sound and the item isn't refused
pub sound_with_item : (p : Plan) (i : Item) → (may_follow p i && is_sound (with_item p i)) ≡ (is_sound p && is_none (why_not_item p i))
sound_with_item p (Grid g) = sound_with_grid p g
sound_with_item p (Outer points) = refused_outer p points
sound_with_item p (ObstacleItem name points) = sound_with_obstacle p name points
sound_with_item p (ScreenItem name from to) = sound_with_screen p name from to
sound_with_item p (RouteItem name from to) = sound_with_route p name from to

-- ---- what isn't refused leaves a sound plan

pub no_cause : (o : Option Why) → o ≡ None → is_none o ≡ true
no_cause None e = refl
no_cause (Some why) e = cc

pub a_cause : (o : Option Why) (why : Why) → o ≡ Some why → is_none o ≡ false
a_cause None why e = cc
a_cause (Some first) why e = refl

both : (s n t : Bool) → t ≡ (s && n) → s ≡ true → n ≡ true → t ≡ true
both s n t e h k = grind arith

not_second : (s n t : Bool) → t ≡ (s && n) → n ≡ false → t ≡ false
not_second s n t e h = grind arith

pub added_item_is_sound : (p : Plan) (i : Item) → is_sound p ≡ true → why_not_item p i ≡ None → (may_follow p i && is_sound (with_item p i)) ≡ true
added_item_is_sound p i h e = both (is_sound p) (is_none (why_not_item p i)) _ (sound_with_item p i) h (no_cause _ e)

pub added_outer_is_sound : (points : List Point) → why_not_outer empty_plan points ≡ None → is_sound (with_item empty_plan (Outer points)) ≡ true
added_outer_is_sound points e = sound_with_outer points ∙ no_cause _ e

pub added_grid_is_sound : (p : Plan) (g : GridSpec) → is_sound p ≡ true → why_not_grid p g ≡ None → is_sound (with_item p (Grid g)) ≡ true
added_grid_is_sound p g h e = second (is_none p.grid) (is_sound (with_item p (Grid g))) (added_item_is_sound p (Grid g) h e)
  where
    second : (a b : Bool) → (a && b) ≡ true → b ≡ true
    second a b h = grind arith

pub added_obstacle_is_sound : (p : Plan) (name : List ℕ) (points : List Point)
    → is_sound p ≡ true → why_not_obstacle p name points ≡ None → is_sound (with_item p (ObstacleItem name points)) ≡ true
added_obstacle_is_sound p name points h e = added_item_is_sound p (ObstacleItem name points) h e

pub added_screen_is_sound : (p : Plan) (name : List ℕ) (from to : Point)
    → is_sound p ≡ true → why_not_screen p name from to ≡ None → is_sound (with_item p (ScreenItem name from to)) ≡ true
added_screen_is_sound p name from to h e = added_item_is_sound p (ScreenItem name from to) h e

pub added_route_is_sound : (p : Plan) (name : List ℕ) (from to : Point)
    → is_sound p ≡ true → why_not_route p name from to ≡ None → is_sound (with_item p (RouteItem name from to)) ≡ true
added_route_is_sound p name from to h e = added_item_is_sound p (RouteItem name from to) h e

-- ---- what is refused may not follow, or leaves a plan that isn't sound

pub refused_item_is_unsound : (p : Plan) (i : Item) (why : Why) → why_not_item p i ≡ Some why → (may_follow p i && is_sound (with_item p i)) ≡ false
refused_item_is_unsound p i why e = not_second (is_sound p) (is_none (why_not_item p i)) _ (sound_with_item p i) (a_cause _ why e)

pub refused_outer_is_unsound : (points : List Point) (why : Why) → why_not_outer empty_plan points ≡ Some why → is_sound (with_item empty_plan (Outer points)) ≡ false
refused_outer_is_unsound points why e = sound_with_outer points ∙ a_cause _ why e

pub refused_grid_is_unsound : (p : Plan) (g : GridSpec) (why : Why) → p.grid ≡ None → why_not_grid p g ≡ Some why → is_sound (with_item p (Grid g)) ≡ false
refused_grid_is_unsound p g why n e = no_second (is_none p.grid) _ (no_grid p.grid n) (refused_item_is_unsound p (Grid g) why e)
  where
    no_grid : (o : Option GridSpec) → o ≡ None → is_none o ≡ true
    no_grid None e = refl
    no_grid (Some g) e = cc

    no_second : (a b : Bool) → a ≡ true → (a && b) ≡ false → b ≡ false
    no_second a b h k = grind arith

pub refused_obstacle_is_unsound : (p : Plan) (name : List ℕ) (points : List Point) (why : Why)
    → why_not_obstacle p name points ≡ Some why → is_sound (with_item p (ObstacleItem name points)) ≡ false
refused_obstacle_is_unsound p name points why e = refused_item_is_unsound p (ObstacleItem name points) why e

pub refused_screen_is_unsound : (p : Plan) (name : List ℕ) (from to : Point) (why : Why)
    → why_not_screen p name from to ≡ Some why → is_sound (with_item p (ScreenItem name from to)) ≡ false
refused_screen_is_unsound p name from to why e = refused_item_is_unsound p (ScreenItem name from to) why e

pub refused_route_is_unsound : (p : Plan) (name : List ℕ) (from to : Point) (why : Why)
    → why_not_route p name from to ≡ Some why → is_sound (with_item p (RouteItem name from to)) ≡ false
refused_route_is_unsound p name from to why e = refused_item_is_unsound p (RouteItem name from to) why e

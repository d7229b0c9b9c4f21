-- Changes that name places: what they are refused for, the plan after one, and the change that takes one back.
use Rattle.std.specs.Prelude.{◌≡◌, ◌≤◌, ℕ, ⊤, neg_ℤ, List, length, Option, Some, None}
use Rattle.plan_spec.specs.declared.item.Screen.{Screen}
use Rattle.plan_spec.specs.declared.item.Route.{Route}
use Rattle.plan_spec.specs.declared.edit.Edit.{Edit}
use Rattle.plan_spec.specs.declared.edit.Edit.TheVariants.{Add, Remove, Move, AddScreen, RemoveScreen, AddRoute, RemoveRoute}
use Rattle.plan_spec.specs.declared.why.Why.{Why}
use Rattle.plan_spec.specs.Plan.{Obstacle, Plan, obstacle, screen, route, with_obstacles, with_screens, with_routes, is_obstacle_named, is_screen_named, is_route_named}
use Rattle.plan_spec.specs.Edits.{HasShift, why_not_edit, plan_after_edit}
use Rattle.plan_back.specs.declared.back.Back.{Back}
use Rattle.plan_back.specs.declared.back.Back.TheVariants.{Take, Put, Shift, TakeScreen, PutScreen, TakeRoute, PutRoute}
use Rattle.plan_back.specs.Places.{put_at, first_from}

-- the name of what changes
abbrev pub name_of : Back → List ℕ
name_of (Take name) = name
name_of (Put place name points) = name
name_of (Shift name dx dy) = name
name_of (TakeScreen name) = name
name_of (PutScreen place name from to) = name
name_of (TakeRoute name) = name
name_of (PutRoute place name from to) = name

-- the name of what an edit changes
abbrev pub edit_name : Edit → List ℕ
edit_name (Add name points) = name
edit_name (Remove name) = name
edit_name (Move name dx dy) = name
edit_name (AddScreen name from to) = name
edit_name (RemoveScreen name) = name
edit_name (AddRoute name from to) = name
edit_name (RemoveRoute name) = name

-- ---- refusals

-- the edit that is like it, but adds at the end
abbrev pub like_edit : Back → Edit
like_edit (Take name) = Remove name
like_edit (Put place name points) = Add name points
like_edit (Shift name dx dy) = Move name dx dy
like_edit (TakeScreen name) = RemoveScreen name
like_edit (PutScreen place name from to) = AddScreen name from to
like_edit (TakeRoute name) = RemoveRoute name
like_edit (PutRoute place name from to) = AddRoute name from to

-- the first cause for which it is refused on the plan, or none: what the like edit is refused for
abbrev pub why_not_back : Plan → Back → Option Why
why_not_back plan back = why_not_edit plan (like_edit back)

-- where it adds, the place is among those of its kind, or the one after the last
abbrev pub HasPlace : Plan → Back → Type 0
HasPlace plan (Put place name points) = place ≤ length plan.obstacles
HasPlace plan (PutScreen place name from to) = place ≤ length plan.screens
HasPlace plan (PutRoute place name from to) = place ≤ length plan.routes
HasPlace plan _ = ⊤

-- ---- the plan after it

-- what is new stands at its place; otherwise as after the like edit
unfoldable pub plan_after_back : Plan → Back → Plan
plan_after_back plan (Put place name points) = with_obstacles plan (put_at place (obstacle name points) plan.obstacles)
plan_after_back plan (PutScreen place name from to) = with_screens plan (put_at place (screen name from to) plan.screens)
plan_after_back plan (PutRoute place name from to) = with_routes plan (put_at place (route name from to) plan.routes)
plan_after_back plan (Take name) = plan_after_edit plan (Remove name)
plan_after_back plan (Shift name dx dy) = plan_after_edit plan (Move name dx dy)
plan_after_back plan (TakeScreen name) = plan_after_edit plan (RemoveScreen name)
plan_after_back plan (TakeRoute name) = plan_after_edit plan (RemoveRoute name)

-- the edit as a change that names places: what it adds stands last
abbrev pub back_of : Plan → Edit → Back
back_of plan (Add name points) = Put (length plan.obstacles) name points
back_of plan (Remove name) = Take name
back_of plan (Move name dx dy) = Shift name dx dy
back_of plan (AddScreen name from to) = PutScreen (length plan.screens) name from to
back_of plan (RemoveScreen name) = TakeScreen name
back_of plan (AddRoute name from to) = PutRoute (length plan.routes) name from to
back_of plan (RemoveRoute name) = TakeRoute name

-- ---- taking it back

-- what was found is put in where it stood; where nothing was, `otherwise`
abbrev pub put_obstacle : Back → Option (ℕ × Obstacle) → Back
put_obstacle otherwise None = otherwise
put_obstacle otherwise (Some (place, o)) = Put place o.name o.points

abbrev pub put_screen : Back → Option (ℕ × Screen) → Back
put_screen otherwise None = otherwise
put_screen otherwise (Some (place, s)) = PutScreen place s.name s.from s.to

abbrev pub put_route : Back → Option (ℕ × Route) → Back
put_route otherwise None = otherwise
put_route otherwise (Some (place, r)) = PutRoute place r.name r.from r.to

-- the change that takes it back: what is removed is put in where it stood, what is added is removed, what is moved is
-- moved as far the other way. What would remove nothing is itself
unfoldable pub inverse_of : Plan → Back → Back
inverse_of plan (Take name) = put_obstacle (Take name) (first_from 0 (is_obstacle_named name) plan.obstacles)
inverse_of plan (Put place name points) = Take name
inverse_of plan (Shift name dx dy) = Shift name (neg_ℤ dx) (neg_ℤ dy)
inverse_of plan (TakeScreen name) = put_screen (TakeScreen name) (first_from 0 (is_screen_named name) plan.screens)
inverse_of plan (PutScreen place name from to) = TakeScreen name
inverse_of plan (TakeRoute name) = put_route (TakeRoute name) (first_from 0 (is_route_named name) plan.routes)
inverse_of plan (PutRoute place name from to) = TakeRoute name

-- the other change is allowed on the plan after this one, isn't refused there, gives back the plan itself, with all
-- places, and has the same name
pub record TakesBack (plan : Plan) (back other : Back) : Type 0 where
  pub place : HasPlace (plan_after_back plan back) other
  pub shift : HasShift (like_edit other)
  pub valid : why_not_back (plan_after_back plan back) other ≡ None
  pub gives : plan_after_back (plan_after_back plan back) other ≡ plan
  pub named : name_of other ≡ name_of back

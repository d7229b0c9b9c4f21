-- Every change that names places: an edit as one, and the one that takes it back.
use Rattle.std.specs.Prelude.{◌≡◌, true, None}
use Rattle.std.proofs.Common.{refl, ap, arith}
use Rattle.plan_spec.specs.declared.edit.Edit.{Edit}
use Rattle.plan_spec.specs.declared.edit.Edit.TheVariants.{Add, Remove, Move, AddScreen, RemoveScreen, AddRoute, RemoveRoute}
use Rattle.plan_spec.specs.Plan.{Plan, obstacle, screen, route, with_obstacles, with_screens, with_routes, with_item}
use Rattle.plan_spec.specs.Accepted.{is_sound}
use Rattle.plan_spec.specs.Edits.{HasShift, plan_after_edit}
use Rattle.plan_laws.proofs.Edits.Refused.{edited_is_sound}
use Rattle.plan_back.specs.declared.back.Back.{Back}
use Rattle.plan_back.specs.declared.back.Back.TheVariants.{Take, Put, Shift, TakeScreen, PutScreen, TakeRoute, PutRoute}
use Rattle.plan_back.specs.Backs.{HasPlace, TakesBack, back_of, edit_name, inverse_of, like_edit, name_of, plan_after_back, why_not_back}
use Rattle.plan_back.proofs.Places.{put_last}
use Rattle.plan_back.proofs.Obstacles.{obstacle_put_is_sound, obstacle_taken_back, obstacle_put_back}
use Rattle.plan_back.proofs.Screens.{screen_put_is_sound, screen_taken_back, screen_put_back}
use Rattle.plan_back.proofs.Routes.{route_put_is_sound, route_taken_back, route_put_back}
use Rattle.plan_back.proofs.Shifting.{obstacle_moved_back}

-- ---- an edit as a change that names places

pub back_has_place : (p : Plan) (e : Edit) → HasPlace p (back_of p e)
back_has_place p (Add name points) = omega arith
back_has_place p (Remove name) = tt
back_has_place p (Move name dx dy) = tt
back_has_place p (AddScreen name from to) = omega arith
back_has_place p (RemoveScreen name) = tt
back_has_place p (AddRoute name from to) = omega arith
back_has_place p (RemoveRoute name) = tt

pub back_is_like : (p : Plan) (e : Edit) → like_edit (back_of p e) ≡ e
back_is_like p (Add name points) = refl
back_is_like p (Remove name) = refl
back_is_like p (Move name dx dy) = refl
back_is_like p (AddScreen name from to) = refl
back_is_like p (RemoveScreen name) = refl
back_is_like p (AddRoute name from to) = refl
back_is_like p (RemoveRoute name) = refl

pub like_named : (b : Back) → edit_name (like_edit b) ≡ name_of b
like_named (Take name) = refl
like_named (Put k name points) = refl
like_named (Shift name dx dy) = refl
like_named (TakeScreen name) = refl
like_named (PutScreen k name from to) = refl
like_named (TakeRoute name) = refl
like_named (PutRoute k name from to) = refl

pub back_makes : (p : Plan) (e : Edit) → plan_after_back p (back_of p e) ≡ plan_after_edit p e
unfolding plan_after_back plan_after_edit with_item
back_makes p (Add name points) = ap (with_obstacles p) (put_last (obstacle name points) p.obstacles)
back_makes p (Remove name) = refl
back_makes p (Move name dx dy) = refl
back_makes p (AddScreen name from to) = ap (with_screens p) (put_last (screen name from to) p.screens)
back_makes p (RemoveScreen name) = refl
back_makes p (AddRoute name from to) = ap (with_routes p) (put_last (route name from to) p.routes)
back_makes p (RemoveRoute name) = refl

-- ---- what isn't refused

pub changed_is_sound : (p : Plan) (b : Back) → is_sound p ≡ true → why_not_back p b ≡ None → is_sound (plan_after_back p b) ≡ true
unfolding plan_after_back
changed_is_sound p (Take name) sound none = edited_is_sound p (Remove name) sound none
changed_is_sound p (Put k name points) sound none = obstacle_put_is_sound p k name points sound none
changed_is_sound p (Shift name dx dy) sound none = edited_is_sound p (Move name dx dy) sound none
changed_is_sound p (TakeScreen name) sound none = edited_is_sound p (RemoveScreen name) sound none
changed_is_sound p (PutScreen k name from to) sound none = screen_put_is_sound p k name from to sound none
changed_is_sound p (TakeRoute name) sound none = edited_is_sound p (RemoveRoute name) sound none
changed_is_sound p (PutRoute k name from to) sound none = route_put_is_sound p k name from to sound none

pub inverse_takes_back : (p : Plan) (b : Back) → is_sound p ≡ true → HasShift (like_edit b) → why_not_back p b ≡ None → TakesBack p b (inverse_of p b)
unfolding inverse_of
inverse_takes_back p (Take name) sound shift none = obstacle_put_back p name sound none
inverse_takes_back p (Put k name points) sound shift none = obstacle_taken_back p k name points sound none
inverse_takes_back p (Shift name dx dy) sound shift none = obstacle_moved_back p name dx dy sound shift none
inverse_takes_back p (TakeScreen name) sound shift none = screen_put_back p name sound none
inverse_takes_back p (PutScreen k name from to) sound shift none = screen_taken_back p k name from to sound none
inverse_takes_back p (TakeRoute name) sound shift none = route_put_back p name sound none
inverse_takes_back p (PutRoute k name from to) sound shift none = route_taken_back p k name from to sound none

-- An obstacle that is put in or removed, and the change that takes it back.
use Rattle.std.specs.Prelude.{◌≡◌, ℕ, true, false, List, [], ◌∷◌, ◌++◌, length, take, drop, None, Some}
use Rattle.std.specs.List.{list_any}
use Rattle.std.proofs.Common.{refl, sym, ap, ◌∙◌, arith}
use Rattle.std.proofs.lemmas.List.{take-append-drop, length-append}
use Rattle.std.proofs.lemmas.Slice.Eq.{bytes_eq-Decides}
use Rattle.plane_spec.specs.declared.Point.{Point}
use Rattle.plan_spec.specs.declared.edit.Edit.TheVariants.{Add, Remove}
use Rattle.plan_spec.specs.Plan.{Plan, obstacle, with_obstacles, with_item, is_obstacle_named}
use Rattle.plan_spec.specs.Accepted.{is_sound}
use Rattle.plan_spec.specs.Edits.{without_obstacle, why_not_edit, plan_after_edit}
use Rattle.list_laws.proofs.Single.{Single, all_but_single}
use Rattle.plan_laws.proofs.Names.{obstacle_alone}
use Rattle.plan_laws.proofs.Adding.Obstacles.{new_obstacle}
use Rattle.plan_back.specs.declared.back.Back.TheVariants.{Take, Put}
use Rattle.plan_back.specs.Places.{put_at, first_from}
use Rattle.plan_back.specs.Backs.{plan_after_back, inverse_of, TakesBack}
use Rattle.plan_back.proofs.Places.{put_between, found_where_put, removed_where_put, first_found}
use Rattle.plan_back.proofs.Turned.{name_itself}
use Rattle.plan_back.proofs.Moved.{sound_obstacle_moved}
use Rattle.plan_back.proofs.Causes.{not_refused, there_and_sound}

-- ---- put in

-- the plan with a new obstacle at any place is sound where the one with it at the end is
pub sound_with_obstacle_put : (p : Plan) (k : ℕ) (name : List ℕ) (points : List Point)
    → is_sound (plan_after_back p (Put k name points)) ≡ is_sound (plan_after_edit p (Add name points))
unfolding plan_after_back plan_after_edit with_item
sound_with_obstacle_put p k name points =
    sound_obstacle_moved p (take k p.obstacles) (obstacle name points) (drop k p.obstacles)
    ∙ ap (λ os. is_sound (with_obstacles p (os ++ obstacle name points ∷ []))) (take-append-drop k p.obstacles)

pub obstacle_put_is_sound : (p : Plan) (k : ℕ) (name : List ℕ) (points : List Point) → is_sound p ≡ true
    → why_not_edit p (Add name points) ≡ None → is_sound (plan_after_back p (Put k name points)) ≡ true
obstacle_put_is_sound p k name points sound none =
    sound_with_obstacle_put p k name points ∙ (there_and_sound p (Add name points) sound none).1

new_name : (p : Plan) (name : List ℕ) (points : List Point) → why_not_edit p (Add name points) ≡ None
    → list_any (is_obstacle_named name) p.obstacles ≡ false
unfolding why_not_edit
new_name p name points none = new_obstacle p name points none

-- its removal takes it back
pub obstacle_taken_back : (p : Plan) (k : ℕ) (name : List ℕ) (points : List Point) → is_sound p ≡ true
    → why_not_edit p (Add name points) ≡ None → TakesBack p (Put k name points) (Take name)
unfolding plan_after_back plan_after_edit
obstacle_taken_back p k name points sound none = record {
  place = tt;
  shift = tt;
  valid =
      not_refused (plan_after_back p (Put k name points)) (Remove name) (obstacle_put_is_sound p k name points sound none)
      (found_where_put (is_obstacle_named name) k (obstacle name points) p.obstacles (name_itself name))
      (ap is_sound gone ∙ sound);
  gives = gone;
  named = refl;
}
  where
    gone : with_obstacles p (without_obstacle name (put_at k (obstacle name points) p.obstacles)) ≡ p
    gone =
        ap (with_obstacles p)
        (removed_where_put (is_obstacle_named name) k (obstacle name points) p.obstacles (name_itself name) (new_name p name points none))

-- ---- removed

-- putting it in where it stood takes that back
pub obstacle_put_back : (p : Plan) (name : List ℕ) → is_sound p ≡ true → why_not_edit p (Remove name) ≡ None
    → TakesBack p (Take name) (inverse_of p (Take name))
unfolding plan_after_back plan_after_edit inverse_of
obstacle_put_back p name sound none =
    let there = there_and_sound p (Remove name) sound none in
    let s = obstacle_alone p name sound there.0 in
    let found : first_from 0 (is_obstacle_named name) p.obstacles ≡ Some (length s.before, s.it) =
    ap (first_from 0 (is_obstacle_named name)) s.is ∙ first_found (is_obstacle_named name) s.before s.it s.after s.none_before s.passes in
    rw found (back s there.1)
  where
    back : (s : Single (is_obstacle_named name) p.obstacles) → is_sound (plan_after_edit p (Remove name)) ≡ true
        → TakesBack p (Take name) (Put (length s.before) s.it.name s.it.points)
    back s fewer_sound =
        let rest : without_obstacle name p.obstacles ≡ s.before ++ s.after = all_but_single (is_obstacle_named name) p.obstacles s in
        let gives : with_obstacles p (put_at (length s.before) s.it (without_obstacle name p.obstacles)) ≡ p =
        ap (with_obstacles p) (ap (put_at (length s.before) s.it) rest ∙ put_between s.before s.it s.after ∙ sym s.is) in
        record {
          place = omega (arith, ap length rest, length-append s.before s.after);
          shift = tt;
          valid =
              not_refused (plan_after_edit p (Remove name)) (Add s.it.name s.it.points) fewer_sound refl
              (sym (sound_with_obstacle_put (plan_after_edit p (Remove name)) (length s.before) s.it.name s.it.points) ∙ ap is_sound gives ∙ sound);
          gives = gives;
          named = (bytes_eq-Decides s.it.name name).0 s.passes;
        }

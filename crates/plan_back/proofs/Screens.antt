-- A screen that is put in or removed, and the change that takes it back.
use Rattle.std.specs.Prelude.{◌≡◌, ℕ, true, false, not, List, [], ◌∷◌, ◌++◌, length, filter, take, drop, None, Some}
use Rattle.std.specs.List.{list_any}
use Rattle.std.proofs.Common.{refl, sym, ap, ◌∙◌, arith}
use Rattle.std.proofs.lemmas.List.{take-append-drop, length-append}
use Rattle.std.proofs.lemmas.Slice.Eq.{bytes_eq-Decides}
use Rattle.plane_spec.specs.declared.Point.{Point}
use Rattle.plan_spec.specs.declared.edit.Edit.TheVariants.{AddScreen, RemoveScreen}
use Rattle.plan_spec.specs.Plan.{Plan, screen, with_screens, with_item, is_screen_named}
use Rattle.plan_spec.specs.Accepted.{is_sound}
use Rattle.plan_spec.specs.Edits.{why_not_edit, plan_after_edit}
use Rattle.list_laws.proofs.Single.{Single, all_but_single}
use Rattle.plan_laws.proofs.Names.{screen_alone}
use Rattle.plan_laws.proofs.Adding.Screens.{new_screen}
use Rattle.plan_back.specs.declared.back.Back.TheVariants.{TakeScreen, PutScreen}
use Rattle.plan_back.specs.Places.{put_at, first_from}
use Rattle.plan_back.specs.Backs.{plan_after_back, inverse_of, TakesBack}
use Rattle.plan_back.proofs.Places.{put_between, found_where_put, removed_where_put, first_found}
use Rattle.plan_back.proofs.Turned.{name_itself}
use Rattle.plan_back.proofs.Moved.{sound_screen_moved}
use Rattle.plan_back.proofs.Causes.{not_refused, there_and_sound}

-- ---- put in

-- the plan with a new screen at any place is sound where the one with it at the end is
pub sound_with_screen_put : (p : Plan) (k : ℕ) (name : List ℕ) (from to : Point)
    → is_sound (plan_after_back p (PutScreen k name from to)) ≡ is_sound (plan_after_edit p (AddScreen name from to))
unfolding plan_after_back plan_after_edit with_item
sound_with_screen_put p k name from to =
    sound_screen_moved p (take k p.screens) (screen name from to) (drop k p.screens)
    ∙ ap (λ os. is_sound (with_screens p (os ++ screen name from to ∷ []))) (take-append-drop k p.screens)

pub screen_put_is_sound : (p : Plan) (k : ℕ) (name : List ℕ) (from to : Point) → is_sound p ≡ true
    → why_not_edit p (AddScreen name from to) ≡ None → is_sound (plan_after_back p (PutScreen k name from to)) ≡ true
screen_put_is_sound p k name from to sound none =
    sound_with_screen_put p k name from to ∙ (there_and_sound p (AddScreen name from to) sound none).1

new_name : (p : Plan) (name : List ℕ) (from to : Point) → why_not_edit p (AddScreen name from to) ≡ None
    → list_any (is_screen_named name) p.screens ≡ false
unfolding why_not_edit
new_name p name from to none = new_screen p name from to none

-- its removal takes it back
pub screen_taken_back : (p : Plan) (k : ℕ) (name : List ℕ) (from to : Point) → is_sound p ≡ true
    → why_not_edit p (AddScreen name from to) ≡ None → TakesBack p (PutScreen k name from to) (TakeScreen name)
unfolding plan_after_back plan_after_edit
screen_taken_back p k name from to sound none = record {
  place = tt;
  shift = tt;
  valid =
      not_refused (plan_after_back p (PutScreen k name from to)) (RemoveScreen name) (screen_put_is_sound p k name from to sound none)
      (found_where_put (is_screen_named name) k (screen name from to) p.screens (name_itself name))
      (ap is_sound gone ∙ sound);
  gives = gone;
  named = refl;
}
  where
    gone : with_screens p (filter (λ x. not (is_screen_named name x)) (put_at k (screen name from to) p.screens)) ≡ p
    gone =
        ap (with_screens p)
        (removed_where_put (is_screen_named name) k (screen name from to) p.screens (name_itself name) (new_name p name from to none))

-- ---- removed

-- putting it in where it stood takes that back
pub screen_put_back : (p : Plan) (name : List ℕ) → is_sound p ≡ true → why_not_edit p (RemoveScreen name) ≡ None
    → TakesBack p (TakeScreen name) (inverse_of p (TakeScreen name))
unfolding plan_after_back plan_after_edit inverse_of
screen_put_back p name sound none =
    let there = there_and_sound p (RemoveScreen name) sound none in
    let s = screen_alone p name sound there.0 in
    let found : first_from 0 (is_screen_named name) p.screens ≡ Some (length s.before, s.it) =
    ap (first_from 0 (is_screen_named name)) s.is ∙ first_found (is_screen_named name) s.before s.it s.after s.none_before s.passes in
    rw found (back s there.1)
  where
    back : (s : Single (is_screen_named name) p.screens) → is_sound (plan_after_edit p (RemoveScreen name)) ≡ true
        → TakesBack p (TakeScreen name) (PutScreen (length s.before) s.it.name s.it.from s.it.to)
    back s fewer_sound =
        let rest : filter (λ x. not (is_screen_named name x)) p.screens ≡ s.before ++ s.after = all_but_single (is_screen_named name) p.screens s in
        let gives : with_screens p (put_at (length s.before) s.it (filter (λ x. not (is_screen_named name x)) p.screens)) ≡ p =
        ap (with_screens p) (ap (put_at (length s.before) s.it) rest ∙ put_between s.before s.it s.after ∙ sym s.is) in
        record {
          place = omega (arith, ap length rest, length-append s.before s.after);
          shift = tt;
          valid =
              not_refused (plan_after_edit p (RemoveScreen name)) (AddScreen s.it.name s.it.from s.it.to) fewer_sound refl
              (sym (sound_with_screen_put (plan_after_edit p (RemoveScreen name)) (length s.before) s.it.name s.it.from s.it.to) ∙ ap is_sound gives ∙ sound);
          gives = gives;
          named = (bytes_eq-Decides s.it.name name).0 s.passes;
        }

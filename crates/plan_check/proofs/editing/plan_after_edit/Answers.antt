use Rattle.std.specs.Prelude.{◌≤◌, ◌<◌, ◌^◌, ℤ, unsigned_abs}
use Rattle.std.proofs.Common.{FitsSigned, w64, refl, sym, ap, subst, arith, ◌∙◌}
use Rattle.std.proofs.lemmas.Int.{to_z-of_z, fits_signed_from_abs}
use Rattle.plane_spec.specs.Vectors.{IsWithin}
use Rattle.exact_geom.proofs.Bounds.{size_within}
use Rattle.plan_spec.specs.declared.limits.TheConstants.{MAX_SHIFT}
use Rattle.plan_spec.specs.Plan.{with_item}
use Rattle.plan_spec.specs.Edits.{IsShift, HasShift, plan_after_edit, why_not_edit}
use Rattle.plan_laws.proofs.Adding.Obstacles.{new_obstacle}
use Rattle.plan_laws.proofs.Adding.Routes.{new_route}
use Rattle.plan_laws.proofs.Adding.Screens.{new_screen}
use Rattle.plan_check.proofs.editing.plan_after_edit.Goals.{in-Add+in_ok-points-in-Add+in_ok-add_obstacle-in-Add, in-Remove, in-Move+in_ok-move_obstacle-in-Move, in-AddScreen+in_ok-add_screen-in-AddScreen, in-RemoveScreen, in-AddRoute+in_ok-add_route-in-AddRoute, in-RemoveRoute}
use Rattle.plan_check.proofs.editing.plan_after_edit.Goals as goal

shift_fits : (z : ℤ) → IsWithin MAX_SHIFT z → FitsSigned w64 z
shift_fits z h = fits_signed_from_abs w64 z (le_lt (size_within 999999999 z h))
  where
    le_lt : unsigned_abs z ≤ 999999999 → unsigned_abs z < 2 ^ 63
    le_lt h = omega arith

pub add_obstacle-requires : goal.add_obstacle-requires
unfolding why_not_edit
add_obstacle-requires c =
    rw (c.copy.ensures, c.in_ok-new.ensures) (new_obstacle c.args.draft.now c.in-Add.name c.in-Add.points (ap (why_not_edit c.args.draft.now) (sym c.in-Add.is) ∙ c.requires.valid))

pub add_screen-requires : goal.add_screen-requires
unfolding why_not_edit
add_screen-requires c =
    rw (c.copy-in-AddScreen.ensures, c.in_ok-new.ensures) (new_screen c.args.draft.now c.in-AddScreen.name c.in-AddScreen.from c.in-AddScreen.to (ap (why_not_edit c.args.draft.now) (sym c.in-AddScreen.is) ∙ c.requires.valid))

pub add_route-requires : goal.add_route-requires
unfolding why_not_edit
add_route-requires c =
    rw (c.copy-in-AddRoute.ensures, c.in_ok-new.ensures) (new_route c.args.draft.now c.in-AddRoute.name c.in-AddRoute.from c.in-AddRoute.to (ap (why_not_edit c.args.draft.now) (sym c.in-AddRoute.is) ∙ c.requires.valid))

pub returns : goal.returns
unfolding plan_after_edit with_item
returns c =
    elim c.match-edit.branch [
      | in-Add+in_ok-points-in-Add+in_ok-add_obstacle-in-Add w ↦ rw (w.new-is, w.in_ok-add_obstacle-in-Add.ensures.ok, c.in_ok-new.ensures, w.in_ok-points-in-Add.ensures, w.as_slice.ensures, w.copy.ensures, w.in-Add.is) refl
      | in-Remove w ↦ rw (w.new-is, w.remove_obstacle.ensures, c.in_ok-new.ensures, w.in-Remove.is) refl
      | in-Move+in_ok-move_obstacle-in-Move w ↦
          let shift : IsShift w.in-Move.dx w.in-Move.dy = subst HasShift w.in-Move.is c.requires.shift in
          let fits_x = shift_fits w.in-Move.dx shift.x in
          let fits_y = shift_fits w.in-Move.dy shift.y in
          let moved = simp to_z-of_z at w.in_ok-move_obstacle-in-Move.ensures.ok in
          rw (w.new-is, moved, c.in_ok-new.ensures, w.in-Move.is) refl
      | in-AddScreen+in_ok-add_screen-in-AddScreen w ↦ rw (w.new-is, w.in_ok-add_screen-in-AddScreen.ensures.ok, c.in_ok-new.ensures, w.copy-in-AddScreen.ensures, w.in-AddScreen.is) refl
      | in-RemoveScreen w ↦ rw (w.new-is, w.remove_screen.ensures, c.in_ok-new.ensures, w.in-RemoveScreen.is) refl
      | in-AddRoute+in_ok-add_route-in-AddRoute w ↦ rw (w.new-is, w.in_ok-add_route-in-AddRoute.ensures.ok, c.in_ok-new.ensures, w.copy-in-AddRoute.ensures, w.in-AddRoute.is) refl
      | in-RemoveRoute w ↦ rw (w.new-is, w.remove_route.ensures, c.in_ok-new.ensures, w.in-RemoveRoute.is) refl
    ]
